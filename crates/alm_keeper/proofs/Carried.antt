-- What a commit between pieces carries over: what went out, and the copy.
use Rattle.std.proofs.Common.{◌≡◌, ℕ, ◌+◌, ◌*◌, ◌^◌, ◌≤◌, ◌<◌, Bool, false, List, [], ◌∷◌, ◌++◌, length, take, drop, Result, Ok, sym, ◌∙◌, ap, subst, arith, append_assoc, length-append, length-drop}
use Rattle.std.proofs.lemmas.List.{ext_get_or, get_or-take, get_or-drop, length-take-le, take-append-le}
use Rattle.alm_codec.specs.Versions.{closed_gate, newer}
use Rattle.alm_codec.specs.declared.asked.Asked.{Asked}
use Rattle.alm_model.specs.Plant.{Condensed}
use Rattle.alm_model.specs.Step.{run}
use Rattle.alm_model.specs.Rules.{AreAdmitted}
use Rattle.alm_codec.specs.Frames.{IsFrame, asked_actions, frame_body, frame_text}
use Rattle.alm_codec.specs.Image.{image_text}
use Rattle.alm_disk.specs.Device.{DeviceState, Writes, Syncs, is_within}
use Rattle.alm_disk.specs.Device.{byte_at as byte_of}
use Rattle.alm_disk.proofs.Places.{below, above}
use Rattle.alm_segment.specs.Texts.{written, actions_in}
use Rattle.alm_segment.proofs.Pushed.{actions_pushed, text_pushed, frames_pushed}
use Rattle.alm_checkpoint.specs.declared.half.Half.{Half}
use Rattle.alm_checkpoint.specs.declared.half.Half.TheVariants.{First, Second}
use Rattle.alm_checkpoint.specs.declared.layout.Layout.{Layout}
use Rattle.alm_checkpoint.specs.Layouts.{part, half_at, half_len, other}
use Rattle.alm_checkpoint.specs.Cut.{head_before}
use Rattle.alm_checkpoint.specs.Headers.{half_head_text}
use Rattle.alm_keeper.specs.Stand.{Account, Ready, end_of_half, other_at, with_commit}
use Rattle.alm_keeper.specs.Resting.{RestsBut, Kept}
use Rattle.alm_keeper.specs.declared.stage.Stage.TheVariants.{Idle}
use Rattle.alm_keeper.specs.Piecewise.{Copy, since_text, open_text, run_text, IsCopy, is_sent, WrotePart, Paused, with_copied_frame}
use Rattle.alm_codec.proofs.Frames.{each_newer}
use Rattle.alm_keeper.proofs.Devices.{frame_long}
use Rattle.alm_keeper.proofs.Gates.{written_open}
use Rattle.alm_model.proofs.Runs.{admitted_join, run_append, run_count}

part_same : (at m : ℕ) (b c : List ℕ) → length c ≡ length b → at + m ≤ length b → ((place : ℕ) → at ≤ place → place < at + m → byte_of c place ≡ byte_of b place) → part at m c ≡ part at m b
part_same at m b c long within same =
    let one : length (take m (drop at c)) ≡ m = length-take-le m (drop at c) (omega (arith, long, within, length-drop at c)) in
    let two : length (take m (drop at b)) ≡ m = length-take-le m (drop at b) (omega (arith, within, length-drop at b)) in
    ext_get_or 0 (take m (drop at c)) (take m (drop at b)) (one ∙ sym two)
    (λ i lt.
    let inside : i < m = omega (arith, lt, one) in
    get_or-take m (drop at c) i 0 inside ∙ get_or-drop at c i 0 ∙ same (at + i) (omega arith) (omega (arith, inside)) ∙ sym (get_or-drop at b i 0) ∙ sym (get_or-take m (drop at b) i 0 inside))

-- the halves don't meet
outside : (l : Layout) (h : Half) (s m place : ℕ) → half_at l h ≤ s → s + m ≤ half_at l h + half_len l → half_at l (other h) ≤ place → place < half_at l (other h) + half_len l → is_within s m place ≡ false
outside l First s m place from to ge lt = above s m place (omega (arith, from, to, ge))
outside l Second s m place from to ge lt = below s m place (omega (arith, from, lt))

-- a write into the half that stands, done or failed
pub wrote_write : {E : Type 0} (result : Result Unit E) (a : Account) (text : List ℕ) (state new : DeviceState) (at : ℕ) (bytes : List ℕ)
    → length text + 1 ≤ half_len a.layout → other_at a + half_len a.layout ≤ length state.bytes → half_at a.layout a.half ≤ at → at + length bytes ≤ end_of_half a → Writes at bytes result state new → WrotePart a text state → WrotePart a text new
wrote_write result a text state new at bytes short long from to writes wrote =
    part_same (other_at a + 1) (length text) state.bytes new.bytes writes.size (omega (arith, short, long))
    (λ place ge lt. writes.outside place (outside a.layout a.half at (length bytes) place from to (omega (arith, ge)) (omega (arith, lt, short)))) ∙ wrote

pub wrote_sync : {E : Type 0} (loose : ℕ → Bool) (a : Account) (text : List ℕ) (state new : DeviceState) (b : List ℕ) → RestsBut loose state b → Syncs {E = E} (Ok tt) state new → WrotePart a text state → WrotePart a text new
wrote_sync loose a text state new b rests syncs wrote = ap (part (other_at a + 1) (length text)) (syncs.read_stays rests.sound) ∙ wrote

-- ---- the copy

module _ (a : Account) (k : Copy) (actions : List Asked) (copy : IsCopy a k) where
  counted : a.plant.panel.count ≡ k.base.panel.count + length (actions_in k.since)
  counted = sym (ap (λ (q : Condensed). q.panel.count) copy.runs) ∙ run_count k.base (actions_in k.since)

  pub frame : List ℕ
  frame = 165 ∷ frame_text (newer a.version) (a.epoch + 1) (k.base.panel.count + length (actions_in k.since) + 1) actions

  -- its first number is the next one
  pub frame_is : frame ≡ 165 ∷ frame_text (newer a.version) (a.epoch + 1) (a.plant.panel.count + 1) actions
  unfolding frame
  frame_is = ap (λ (n : ℕ). 165 ∷ frame_text (newer a.version) (a.epoch + 1) (n + 1) actions) (sym counted)

  since_grows : since_text (with_commit a actions) (with_copied_frame k actions) ≡ since_text a k ++ frame
  unfolding frame
  since_grows = text_pushed (newer a.version) (a.epoch + 1) k.base.panel.count k.since (written actions)

  pub since_long : length (since_text (with_commit a actions) (with_copied_frame k actions)) ≡ length (since_text a k) + (19 + 16 * length actions)
  unfolding frame
  since_long = omega (arith, ap length since_grows, length-append (since_text a k) frame, frame_long (newer a.version) (a.epoch + 1) (k.base.panel.count + length (actions_in k.since) + 1) actions)

  abbrev start : List ℕ
  start = half_head_text a.layout (other a.half) (head_before (newer a.version) (a.epoch + 1) k.base) ++ image_text k.base

  pub open_grows : open_text (with_commit a actions) (with_copied_frame k actions) ≡ open_text a k ++ frame
  open_grows = ap (λ (t : List ℕ). start ++ t) since_grows ∙ sym (append_assoc start (since_text a k) frame)

  -- what went out is a prefix of the longer run as well
  pub same_front : take k.out (run_text a k) ≡ take k.out (run_text (with_commit a actions) (with_copied_frame k actions))
  same_front =
      take-append-le k.out (open_text a k) (closed_gate (newer a.version) ∷ []) copy.left
      ∙ sym (take-append-le k.out (open_text a k) (frame ++ closed_gate (newer a.version) ∷ []) copy.left)
      ∙ ap (take k.out) (sym (append_assoc (open_text a k) frame (closed_gate (newer a.version) ∷ [])) ∙ ap (λ (t : List ℕ). t ++ closed_gate (newer a.version) ∷ []) (sym open_grows))

  pub still : IsFrame a.version a.epoch (a.plant.panel.count + 1) actions → AreAdmitted a.plant (asked_actions actions) → IsCopy (with_commit a actions) (with_copied_frame k actions)
  still spelled admitted = record {
    more = copy.more;
    image = copy.image;
    sizes = copy.sizes;
    count = copy.count;
    frames = frames_pushed (newer a.version) (a.epoch + 1) k.base.panel.count k.since (written actions) copy.frames (written_open (newer a.version))
        (record { fits = (copy.more, subst (λ (n : ℕ). n + 1 < 2 ^ 64) counted spelled.fits.1); some = spelled.some; few = spelled.few; limits = spelled.limits; askers = each_newer a.version actions spelled.askers });
    admitted = subst (AreAdmitted k.base) (sym (actions_pushed k.since (written actions))) (admitted_join k.base (actions_in k.since) (asked_actions actions) copy.admitted (subst (λ (q : Condensed). AreAdmitted q (asked_actions actions)) (sym copy.runs) admitted));
    runs = ap (run k.base) (actions_pushed k.since (written actions)) ∙ run_append k.base (actions_in k.since) (asked_actions actions) ∙ ap (λ (q : Condensed). run q (asked_actions actions)) copy.runs;
    room = omega (arith, copy.room, since_long);
    shut = copy.shut;
    left = omega (arith, copy.left, ap length open_grows, length-append (open_text a k) frame);
  }

  -- after the commit's end the checkpoint is paused as before, with one frame more in its run
  pub resumes : (state : DeviceState) → Kept (is_sent a k.out) (Ready a) (Ready (with_commit a actions)) Idle state a.gate (frame_body a.version a.epoch (a.plant.panel.count + 1) actions) → WrotePart a (take k.out (run_text a k)) state
      → Paused (with_commit a actions) (with_copied_frame k actions) state
  resumes state kept wrote = record {
    images = kept.images;
    bytes = kept.stands.0;
    ready = kept.stands.1;
    rests = kept.stands.2;
    wrote = subst (λ (t : List ℕ). part (other_at a + 1) (length t) state.bytes ≡ t) same_front wrote;
  }
