-- The frames of a device are one list.
use Rattle.std.proofs.Common.{◌≡◌, ℕ, ◌+◌, true, false, List, [], ◌∷◌, ◌++◌, length, get_or, drop, Result, Ok, refl, sym, ◌∙◌, ap, subst, append_assoc, true≢false}
use Rattle.std.proofs.lemmas.List.{drop_at}
use Rattle.alm_codec.specs.declared.asked.Asked.{Asked}
use Rattle.alm_codec.specs.declared.version.Version.{Version}
use Rattle.alm_codec.specs.Versions.{is_open}
use Rattle.alm_codec.specs.Frames.{frame_text}
use Rattle.alm_codec.proofs.Frames.{no_frame_begins}
use Rattle.alm_segment.specs.Texts.{Frame, frames_text, AreFrames}
use Rattle.alm_checkpoint.specs.declared.device_fault.DeviceFault.{DeviceFault}
use Rattle.alm_checkpoint.specs.Opening.{Opened, opened_in}
use Rattle.alm_checkpoint.proofs.Shown.{shown, shown_opens}
use Rattle.alm_keeper.specs.Trail.{asked_in, Says}

abbrev well : Opened → Result Opened DeviceFault
well x = Ok x

well_is : (x y : Opened) → well x ≡ well y → x ≡ y
well_is x y e = cc

abbrev first_of : List ℕ → ℕ
first_of bytes = get_or bytes 0 0

-- a gate isn't both open and closed
never : (version : Version) (g h : ℕ) → is_open version g ≡ true → is_open version h ≡ false → g ≡ h → ⊥
never version g h opened shut same = true≢false (sym opened ∙ ap (is_open version) same ∙ shut)

same_frames : (version : Version) (epoch count : ℕ) (frames others : List Frame) (g h : ℕ) (x y : List ℕ) → AreFrames version epoch count frames → AreFrames version epoch count others → is_open version g ≡ false → is_open version h ≡ false
    → frames_text version epoch count frames ++ (g ∷ x) ≡ frames_text version epoch count others ++ (h ∷ y) → frames ≡ others
same_frames version epoch count [] [] g h x y are are' shut shut' e = refl
same_frames version epoch count [] (o ∷ others) g h x y are are' shut shut' e = absurd (never version o.gate g are'.0 shut (sym (ap first_of e)))
same_frames version epoch count (f ∷ frames) [] g h x y are are' shut shut' e = absurd (never version f.gate h are.0 shut' (ap first_of e))
same_frames version epoch count (f ∷ frames) (o ∷ others) g h x y are are' shut shut' e =
    let rest : (k : Frame) (ks : List Frame) (z : List ℕ) → (frame_text version epoch (count + 1) k.asked ++ frames_text version epoch (count + length k.asked) ks) ++ z ≡ frame_text version epoch (count + 1) k.asked ++ (frames_text version epoch (count + length k.asked) ks ++ z) =
    λ k ks z. append_assoc (frame_text version epoch (count + 1) k.asked) (frames_text version epoch (count + length k.asked) ks) z in
    let behind = sym (rest f frames (g ∷ x)) ∙ ap (drop 1) e ∙ rest o others (h ∷ y) in
    let asked : f.asked ≡ o.asked = (no_frame_begins version epoch (count + 1) epoch (count + 1) f.asked o.asked (frames_text version epoch (count + length f.asked) frames ++ (g ∷ x)) (frames_text version epoch (count + length o.asked) others ++ (h ∷ y)) are.1 are'.1 behind).2 in
    let gate : f.gate ≡ o.gate = ap first_of e in
    let left : frames_text version epoch (count + length f.asked) frames ++ (g ∷ x) ≡ frames_text version epoch (count + length o.asked) others ++ (h ∷ y) =
    sym (drop_at (frame_text version epoch (count + 1) f.asked) (frames_text version epoch (count + length f.asked) frames ++ (g ∷ x)) (length (frame_text version epoch (count + 1) f.asked)) refl)
    ∙ ap (drop (length (frame_text version epoch (count + 1) f.asked))) behind
    ∙ drop_at (frame_text version epoch (count + 1) o.asked) (frames_text version epoch (count + length o.asked) others ++ (h ∷ y)) (length (frame_text version epoch (count + 1) f.asked)) (ap (λ (l : List Asked). length (frame_text version epoch (count + 1) l)) (sym asked)) in
    let tails : frames ≡ others =
    same_frames version epoch (count + length f.asked) frames others g h x y are.2 (subst (λ (l : List Asked). AreFrames version epoch (count + length l) others) (sym asked) are'.2) shut shut'
    (left ∙ ap (λ (l : List Asked). frames_text version epoch (count + length l) others ++ (h ∷ y)) (sym asked)) in
    λ i. record { gate = gate i; asked = asked i } ∷ tails i

pub says_once : (before after : List Asked) (bytes : List ℕ) → Says before bytes → Says after bytes → before ≡ after
says_once before after bytes s t =
    let c = s.cut in
    let d = t.cut in
    let here = ap opened_in s.text ∙ shown_opens c s.plant (s.gate ∷ s.tail) s.stores s.reaches in
    let there = ap opened_in t.text ∙ shown_opens d t.plant (t.gate ∷ t.tail) t.stores t.reaches in
    let same : shown c (s.gate ∷ s.tail) ≡ shown d (t.gate ∷ t.tail) = well_is (shown c (s.gate ∷ s.tail)) (shown d (t.gate ∷ t.tail)) (sym here ∙ there) in
    let version : c.version ≡ d.version = ap (λ (o : Opened). o.head.version) same in
    let epoch : c.epoch ≡ d.epoch = ap (λ (o : Opened). o.head.epoch) same in
    let count : c.base.panel.count ≡ d.base.panel.count = ap (λ (o : Opened). o.head.count) same in
    let segment = ap (λ (o : Opened). o.segment) same in
    let frames : c.frames ≡ d.frames =
    same_frames c.version c.epoch c.base.panel.count c.frames d.frames s.gate t.gate s.tail t.tail s.stores.frames
    (subst (λ (v : Version). AreFrames v c.epoch c.base.panel.count d.frames) (sym version) (subst (λ (n : ℕ). AreFrames d.version n c.base.panel.count d.frames) (sym epoch) (subst (λ (n : ℕ). AreFrames d.version d.epoch n d.frames) (sym count) t.stores.frames)))
    s.closed (subst (λ (v : Version). is_open v t.gate ≡ false) (sym version) t.closed)
    (segment ∙ (λ i. frames_text (sym version i) (sym epoch i) (sym count i) d.frames ++ (t.gate ∷ t.tail))) in
    s.said ∙ ap asked_in frames ∙ sym t.said
