-- A cut with another half next to the one that stands, and one of which the other half stands.
use Rattle.std.proofs.Common.{◌≡◌, Bool, true, false, cond, ◌&&◌, inr, ℕ, suc, ◌+◌, ◌^◌, ◌<◌, ◌≤◌, List, [], ◌∷◌, ◌++◌, length, take, Ok, refl, sym, ap, subst, ◌∙◌, append_assoc, arith, length-append}
use Rattle.std.proofs.lemmas.List.{append-nil, take_at}
use Rattle.std.proofs.lemmas.Nat.{from_be_bytes-to_be_bytes_8}
use Rattle.alm_model.specs.Plant.{Condensed}
use Rattle.alm_model.specs.Step.{run}
use Rattle.alm_model.specs.Rules.{KeepsRules, AreAdmitted}
use Rattle.alm_model.proofs.Kept.{run-keeps}
use Rattle.alm_codec.specs.declared.version.Version.{Version}
use Rattle.alm_codec.specs.declared.version.Version.TheVariants.{V01, V02, V03}
use Rattle.alm_codec.specs.Versions.{newer}
use Rattle.alm_codec.specs.Image.{IsImageText, IsOf, image_text}
use Rattle.alm_codec.proofs.Full.{newer_bears}
use Rattle.alm_segment.specs.Texts.{Frame, frames_text, AreFrames, actions_in}
use Rattle.alm_model.proofs.Runs.{run_sizes, run_within}
use Rattle.alm_checkpoint.specs.declared.layout.Layout.{Layout}
use Rattle.alm_checkpoint.specs.declared.half.Half.{Half}
use Rattle.alm_checkpoint.specs.declared.half.Half.TheVariants.{First, Second}
use Rattle.alm_checkpoint.specs.Layouts.{other, half_len, image_size}
use Rattle.alm_checkpoint.specs.declared.half_head.HalfHead.{HalfHead}
use Rattle.alm_checkpoint.specs.Headers.{header_text, half_head_text, is_summed, allows}
use Rattle.alm_checkpoint.specs.Opening.{checked, gate_in, epoch_in, half_head_from, beside_from}
use Rattle.alm_checkpoint.specs.Cut.{Cut, Stores, IsBelow, Reaches, head_before, half_text, before, behind, device_of, with_other, turned_cut, turned_with, side_front, side_back}
use Rattle.alm_checkpoint.proofs.HeaderLaws.{head_long}
use Rattle.alm_checkpoint.proofs.Pieces.{gate_short}
use Rattle.alm_checkpoint.proofs.Shown.{image_is_long, told_again, head_fits}

-- the plant that is stored keeps the rules, has as many rows and areas, and has an image
pub rules_stored : (c : Cut) (plant : Condensed) → Stores c plant → KeepsRules plant
rules_stored c plant s = subst KeepsRules s.runs (run-keeps c.base (actions_in c.frames) s.image.rules s.admitted)

pub within_stored : (c : Cut) (plant : Condensed) → Stores c plant → plant.panel.count ≤ 2 ^ 48
within_stored c plant s = subst (λ (q : Condensed). q.panel.count ≤ 2 ^ 48) s.runs (run_within c.base (actions_in c.frames) s.count s.admitted)

pub sizes_stored : (c : Cut) (plant : Condensed) → Stores c plant → IsOf c.layout.rows c.layout.areas plant.panel.count plant
sizes_stored c plant s =
    let m = run_sizes c.base (actions_in c.frames) s.image.rules.measured in
    record {
      by_rows = ap (λ (q : Condensed). length q.panel.rows) (sym s.runs) ∙ m.0 ∙ s.sizes.by_rows;
      by_areas = ap (λ (q : Condensed). length q.floods) (sym s.runs) ∙ m.1 ∙ s.sizes.by_areas;
      by_count = refl;
    }

pub image_stored : (c : Cut) (plant : Condensed) → Stores c plant → IsImageText plant (image_text plant)
image_stored c plant s =
    let rules = rules_stored c plant s in
    record { rules = rules; fits = omega (arith, rules.stamps, within_stored c plant s); text = refl }

-- another half next to it, that doesn't stand
pub stores_other : (c : Cut) (plant : Condensed) (bytes : List ℕ) → Stores c plant → length bytes ≡ half_len c.layout → IsBelow c.layout (other c.half) c.epoch bytes → Stores (with_other c bytes) plant
stores_other c plant bytes s size below = record {
  layout = s.layout;
  version = s.version;
  epoch = s.epoch;
  image = s.image;
  sizes = s.sizes;
  count = s.count;
  frames = s.frames;
  borne = s.borne;
  admitted = s.admitted;
  runs = s.runs;
  size = size;
  below = below;
}

turn_back : (s m n t u r : List ℕ) → (s ++ (n ++ u)) ++ m ++ t ++ r ≡ s ++ n ++ u ++ ((m ++ t) ++ r)
turn_back s m n t u r = simp append_assoc

turn : (h : Half) (s m n t u r : List ℕ) → (s ++ before h (n ++ u)) ++ m ++ t ++ behind h (n ++ u) r ≡ (s ++ before (other h) (m ++ t)) ++ n ++ u ++ behind (other h) (m ++ t) r
turn First s m n t u r = ap (λ (l : List ℕ). l ++ m ++ t ++ ((n ++ u) ++ r)) (append-nil s) ∙ simp append_assoc
turn Second s m n t u r = turn_back s m n t u r ∙ ap (λ (l : List ℕ). l ++ n ++ u ++ ((m ++ t) ++ r)) (sym (append-nil s))

-- the other half with an image of this plant in the next epoch is the one that stands
pub turns : (c : Cut) (plant : Condensed) (tail new_tail : List ℕ) → device_of (with_other c (half_text c.layout (other c.half) (newer c.version) (c.epoch + 1) plant [] ++ new_tail)) tail ≡ device_of (turned_cut c plant tail) new_tail
turns c plant tail new_tail = turn c.half (165 ∷ header_text c.layout) (half_text c.layout c.half c.version c.epoch c.base c.frames) (half_text c.layout (other c.half) (newer c.version) (c.epoch + 1) plant []) tail new_tail c.rest

half_length : (c : Cut) (tail : List ℕ) → length (image_text c.base) ≡ image_size c.layout → Reaches c tail → length (half_text c.layout c.half c.version c.epoch c.base c.frames ++ tail) ≡ half_len c.layout
half_length c tail by_image reaches =
    omega (
      arith,
      reaches,
      by_image,
      length-append (half_text c.layout c.half c.version c.epoch c.base c.frames) tail,
      head_long c.layout c.half (head_before c.version c.epoch c.base),
      length-append ((165 ∷ half_head_text c.layout c.half (head_before c.version c.epoch c.base)) ++ image_text c.base) (frames_text c.version c.epoch c.base.panel.count c.frames),
      length-append (165 ∷ half_head_text c.layout c.half (head_before c.version c.epoch c.base)) (image_text c.base),
    )

epoch_there : (l : Layout) (h : Half) (version : Version) (epoch : ℕ) (q : Condensed) (frames : List Frame) (tail : List ℕ) → epoch < 2 ^ 64 → epoch_in (half_text l h version epoch q frames ++ tail) ≡ epoch
epoch_there l h version epoch q frames tail lt = from_be_bytes-to_be_bytes_8 epoch lt

-- a header that allows a half allows what a checkpoint makes of its version
pub newer_allowed : (header half : Version) → allows header half ≡ true → allows header (newer half) ≡ true
newer_allowed V01 V01 allowed = refl
newer_allowed V01 V02 allowed = refl
newer_allowed V01 V03 allowed = absurd cc
newer_allowed V02 V01 allowed = refl
newer_allowed V02 V02 allowed = refl
newer_allowed V02 V03 allowed = absurd cc
newer_allowed V03 V01 allowed = absurd cc
newer_allowed V03 V02 allowed = absurd cc
newer_allowed V03 V03 allowed = refl

pub twice_other : (h : Half) → other (other h) ≡ h
twice_other First = refl
twice_other Second = refl

-- a head that is whole may be next to another, whatever its gate
pub beside_whole : (l : Layout) (h : Half) (bytes : List ℕ) (t : HalfHead) → half_head_from l h bytes ≡ Ok t → beside_from l h bytes ≡ Ok tt
beside_whole l h bytes t e = by_need (is_summed l.version && gate_in bytes)
  where
    by_need : (b : Bool) → cond b (checked (half_head_from l h bytes)) (Ok tt) ≡ Ok tt
    by_need true = ap checked e
    by_need false = refl

-- next to a closed gate nothing has to be whole
pub shut_beside : (l : Layout) (h : Half) (half : List ℕ) → gate_in half ≡ false → beside_from l h (take 25 half) ≡ Ok tt
shut_beside l h half shut =
    ap (λ (b : Bool). cond (is_summed l.version && b) (checked (half_head_from l h (take 25 half))) (Ok tt)) (gate_short half ∙ shut) ∙ by_version (is_summed l.version)
  where
    by_version : (b : Bool) → cond (b && false) (checked (half_head_from l h (take 25 half))) (Ok tt) ≡ Ok tt
    by_version true = refl
    by_version false = refl

-- the half that stood before is the other one then
turned_below : (c : Cut) (plant : Condensed) (tail : List ℕ) → Stores c plant → IsBelow c.layout (other (other c.half)) (c.epoch + 1) (half_text c.layout c.half c.version c.epoch c.base c.frames ++ tail)
turned_below c plant tail s =
    let half : List ℕ = half_text c.layout c.half c.version c.epoch c.base c.frames ++ tail in
    let head : HalfHead = head_before c.version c.epoch c.base in
    let mark : List ℕ = 165 ∷ half_head_text c.layout c.half head in
    let front : take 25 half ≡ mark =
    ap (take 25) (append_assoc (mark ++ image_text c.base) (frames_text c.version c.epoch c.base.panel.count c.frames) tail ∙ append_assoc mark (image_text c.base) (frames_text c.version c.epoch c.base.panel.count c.frames ++ tail))
    ∙ take_at mark (image_text c.base ++ (frames_text c.version c.epoch c.base.panel.count c.frames ++ tail)) 25 (ap suc (head_long c.layout c.half head)) in
    subst (λ (h : Half). IsBelow c.layout h (c.epoch + 1) half) (sym (twice_other c.half))
    (record {
      older = inr (omega (arith, epoch_there c.layout c.half c.version c.epoch c.base c.frames tail s.epoch));
      whole = ap (beside_from c.layout c.half) front ∙ beside_whole c.layout c.half mark head (told_again 165 c.layout c.half head s.layout (head_fits c plant s));
    })

pub stores_turned : (c : Cut) (plant : Condensed) (tail : List ℕ) → Stores c plant → Reaches c tail → c.epoch + 1 < 2 ^ 64 → Stores (turned_cut c plant tail) plant
stores_turned c plant tail s reaches more = record {
  layout = s.layout;
  version = newer_allowed c.layout.version c.version s.version;
  epoch = more;
  image = image_stored c plant s;
  sizes = sizes_stored c plant s;
  count = within_stored c plant s;
  frames = tt;
  borne = newer_bears c.version [];
  admitted = tt;
  runs = refl;
  size = half_length c tail (image_is_long c.layout c.base s.sizes s.image) reaches;
  below = turned_below c plant tail s;
}

-- the other half's place among the bytes
side_second : (s m o t r : List ℕ) → (s ++ o) ++ m ++ t ++ r ≡ s ++ o ++ (m ++ t ++ r)
side_second s m o t r = simp append_assoc

-- what precedes the other half is the same without it, if that half comes second
side_first : (s m o t r : List ℕ) → (s ++ []) ++ m ++ t ++ (o ++ r) ≡ ((s ++ []) ++ m) ++ t ++ o ++ r
side_first s m o t r = simp append_assoc

pub beside : (l : Layout) (h : Half) (v : Version) (e : ℕ) (q : Condensed) (frames : List Frame) (old bytes rest tail : List ℕ)
    → device_of (record { layout = l; half = h; version = v; epoch = e; base = q; frames = frames; other = bytes; rest = rest }) tail
    ≡ side_front (record { layout = l; half = h; version = v; epoch = e; base = q; frames = frames; other = old; rest = rest }) h tail ++ bytes ++ side_back (record { layout = l; half = h; version = v; epoch = e; base = q; frames = frames; other = old; rest = rest }) h tail
beside l First v e q frames old bytes rest tail = side_first (165 ∷ header_text l) (half_text l First v e q frames) bytes tail rest
beside l Second v e q frames old bytes rest tail = side_second (165 ∷ header_text l) (half_text l Second v e q frames) bytes tail rest

-- ---- a turn with frames that were copied

pub turns_with : (c : Cut) (base : Condensed) (frames : List Frame) (tail new_tail : List ℕ)
    → device_of (with_other c (half_text c.layout (other c.half) (newer c.version) (c.epoch + 1) base frames ++ new_tail)) tail ≡ device_of (turned_with c base frames tail) new_tail
turns_with c base frames tail new_tail = turn c.half (165 ∷ header_text c.layout) (half_text c.layout c.half c.version c.epoch c.base c.frames) (half_text c.layout (other c.half) (newer c.version) (c.epoch + 1) base frames) tail new_tail c.rest

pub stores_turned_with : (c : Cut) (plant base : Condensed) (frames : List Frame) (tail : List ℕ) → Stores c plant → Reaches c tail → c.epoch + 1 < 2 ^ 64 → IsImageText base (image_text base)
    → IsOf c.layout.rows c.layout.areas base.panel.count base → base.panel.count ≤ 2 ^ 48 → AreFrames (newer c.version) (c.epoch + 1) base.panel.count frames → AreAdmitted base (actions_in frames) → run base (actions_in frames) ≡ plant
    → Stores (turned_with c base frames tail) plant
stores_turned_with c plant base frames tail s reaches more image sizes count spelled admitted runs = record {
  layout = s.layout;
  version = newer_allowed c.layout.version c.version s.version;
  epoch = more;
  image = image;
  sizes = sizes;
  count = count;
  frames = spelled;
  borne = newer_bears c.version (actions_in frames);
  admitted = admitted;
  runs = runs;
  size = half_length c tail (image_is_long c.layout c.base s.sizes s.image) reaches;
  below = turned_below c plant tail s;
}
