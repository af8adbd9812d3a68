-- A cut with one frame more, and the place of its first closed gate.
use Rattle.std.proofs.Common.{◌≡◌, ℕ, suc, ◌+◌, true, List, [], ◌∷◌, ◌++◌, length, sym, ap, subst, ◌∙◌, append_assoc, arith, length-append}
use Rattle.alm_model.specs.Plant.{Condensed}
use Rattle.alm_model.specs.Step.{run}
use Rattle.alm_model.specs.Rules.{AreAdmitted}
use Rattle.alm_codec.specs.Image.{image_text}
use Rattle.alm_codec.specs.Versions.{IsBorne, AreBorne, is_open}
use Rattle.std.proofs.lemmas.List.Elements.{All-append}
use Rattle.alm_codec.specs.Frames.{IsFrame, asked_actions, frame_text}
use Rattle.alm_segment.specs.Texts.{Frame, frames_text, actions_in}
use Rattle.alm_model.proofs.Runs.{run_count, run_append, admitted_join}
use Rattle.alm_segment.proofs.Pushed.{actions_pushed, text_pushed, frames_pushed}
use Rattle.alm_checkpoint.specs.declared.layout.Layout.{Layout}
use Rattle.alm_checkpoint.specs.declared.half.Half.{Half}
use Rattle.alm_checkpoint.specs.declared.half.Half.TheVariants.{First, Second}
use Rattle.alm_checkpoint.specs.Layouts.{half_at, half_len, image_size}
use Rattle.alm_checkpoint.specs.Cut.{Cut, Stores, Reaches, before, front, back, device_of, with_frame, head_before}
use Rattle.alm_checkpoint.specs.Headers.{header_text, half_head_text}
use Rattle.alm_checkpoint.proofs.HeaderLaws.{head_long}
use Rattle.alm_checkpoint.proofs.Shown.{image_is_long}

pub count_is : (c : Cut) (plant : Condensed) → Stores c plant → plant.panel.count ≡ c.base.panel.count + length (actions_in c.frames)
count_is c plant s = ap (λ (q : Condensed). q.panel.count) (sym s.runs) ∙ run_count c.base (actions_in c.frames)

-- the frame's text after its gate is a frame more
pub pushed_text : (c : Cut) (plant : Condensed) (f : Frame) → Stores c plant
    → frames_text c.version c.epoch c.base.panel.count c.frames ++ f.gate ∷ frame_text c.version c.epoch (plant.panel.count + 1) f.asked ≡ frames_text c.version c.epoch c.base.panel.count (with_frame c f).frames
pushed_text c plant f s =
    ap (λ (n : ℕ). frames_text c.version c.epoch c.base.panel.count c.frames ++ f.gate ∷ frame_text c.version c.epoch (n + 1) f.asked) (count_is c plant s)
    ∙ sym (text_pushed c.version c.epoch c.base.panel.count c.frames f)

regroup : (s m i f x t e : List ℕ) → s ++ (m ++ i ++ f) ++ (x ++ t) ++ e ≡ s ++ (m ++ i ++ (f ++ x)) ++ t ++ e
regroup s m i f x t e = simp append_assoc

pub pushes : (c : Cut) (plant : Condensed) (f : Frame) (tail : List ℕ) → Stores c plant → device_of c (f.gate ∷ frame_text c.version c.epoch (plant.panel.count + 1) f.asked ++ tail) ≡ device_of (with_frame c f) tail
pushes c plant f tail s =
    let start : List ℕ = 165 ∷ header_text c.layout ++ before c.half c.other in
    let mark : List ℕ = 165 ∷ half_head_text c.layout c.half (head_before c.version c.epoch c.base) in
    regroup start mark (image_text c.base) (frames_text c.version c.epoch c.base.panel.count c.frames) (f.gate ∷ frame_text c.version c.epoch (plant.panel.count + 1) f.asked) tail (back c)
    ∙ ap (λ (text : List ℕ). start ++ (mark ++ image_text c.base ++ text) ++ tail ++ back c) (pushed_text c plant f s)

pub reaches_pushed : (c : Cut) (plant : Condensed) (f : Frame) (tail : List ℕ) → Stores c plant → Reaches c (f.gate ∷ frame_text c.version c.epoch (plant.panel.count + 1) f.asked ++ tail) → Reaches (with_frame c f) tail
reaches_pushed c plant f tail s reaches =
    omega (
      arith,
      reaches,
      ap length (pushed_text c plant f s),
      length-append (f.gate ∷ frame_text c.version c.epoch (plant.panel.count + 1) f.asked) tail,
      length-append (frames_text c.version c.epoch c.base.panel.count c.frames) (f.gate ∷ frame_text c.version c.epoch (plant.panel.count + 1) f.asked),
    )

pub stores_pushed : (c : Cut) (plant : Condensed) (f : Frame) → Stores c plant → is_open c.version f.gate ≡ true → IsFrame c.version c.epoch (plant.panel.count + 1) f.asked → AreBorne c.version (asked_actions f.asked) → AreAdmitted plant (asked_actions f.asked) → Stores (with_frame c f) (run plant (asked_actions f.asked))
stores_pushed c plant f s opened one borne admitted = record {
  layout = s.layout;
  version = s.version;
  epoch = s.epoch;
  image = s.image;
  sizes = s.sizes;
  count = s.count;
  frames = frames_pushed c.version c.epoch c.base.panel.count c.frames f s.frames opened (subst (λ (n : ℕ). IsFrame c.version c.epoch (n + 1) f.asked) (count_is c plant s) one);
  borne = subst (AreBorne c.version) (sym (actions_pushed c.frames f)) (All-append (IsBorne c.version) (actions_in c.frames) (asked_actions f.asked) s.borne borne);
  admitted = subst (AreAdmitted c.base) (sym (actions_pushed c.frames f)) (admitted_join c.base (actions_in c.frames) (asked_actions f.asked) s.admitted (subst (λ (q : Condensed). AreAdmitted q (asked_actions f.asked)) (sym s.runs) admitted));
  runs = ap (run c.base) (actions_pushed c.frames f) ∙ run_append c.base (actions_in c.frames) (asked_actions f.asked) ∙ ap (λ (q : Condensed). run q (asked_actions f.asked)) s.runs;
  size = s.size;
  below = s.below;
}

-- ---- the place of the first closed gate

front_length : (l : Layout) (h : Half) (m i f o : List ℕ) → length m ≡ 25 → length i ≡ image_size l → length o ≡ half_len l → length ((165 ∷ header_text l ++ before h o) ++ (m ++ i ++ f)) ≡ half_at l h + 25 + image_size l + length f
front_length l First m i f o long by_image by_other =
    omega (arith, length-append ((165 ∷ header_text l) ++ []) (m ++ i ++ f), length-append (165 ∷ header_text l) [], length-append (m ++ i) f, length-append m i, long, by_image)
front_length l Second m i f o long by_image by_other =
    omega (arith, length-append ((165 ∷ header_text l) ++ o) (m ++ i ++ f), length-append (165 ∷ header_text l) o, length-append (m ++ i) f, length-append m i, long, by_image, by_other)

-- the place of the gate, counted from the half's end
pub gate_at : (c : Cut) (plant : Condensed) (tail : List ℕ) → Stores c plant → Reaches c tail → length (front c) + length tail ≡ half_at c.layout c.half + half_len c.layout
gate_at c plant tail s reaches =
    omega (
      arith,
      reaches,
      front_length c.layout c.half (165 ∷ half_head_text c.layout c.half (head_before c.version c.epoch c.base)) (image_text c.base) (frames_text c.version c.epoch c.base.panel.count c.frames) c.other (ap suc (head_long c.layout c.half (head_before c.version c.epoch c.base))) (image_is_long c.layout c.base s.sizes s.image) s.size,
    )
