-- A piece of an open checkpoint, and its end.
use Rattle.std.proofs.Common.{◌≡◌, ⊎_elim, ℕ, ◌+◌, ◌≤◌, false, ◌||◌, List, [], ◌∷◌, ◌++◌, length, take, drop, Result, Ok, refl, sym, ◌∙◌, ap, subst, arith, append_assoc, length-append, length-drop, take-append-drop}
use Rattle.std.proofs.lemmas.List.{length-take-le}
use Rattle.std.proofs.Math.Seq.{take-append-add}
use Rattle.alm_codec.specs.Versions.{closed_gate, newer}
use Rattle.alm_codec.specs.Image.{image_text, image_len}
use Rattle.alm_codec.proofs.Spelled.{image_length}
use Rattle.alm_disk.specs.Device.{DeviceState, Writes, is_within}
use Rattle.alm_disk.specs.Device.{IsImage as IsLeft, byte_at as byte_of}
use Rattle.alm_disk.proofs.Places.{below, above, outside_cases}
use Rattle.alm_checkpoint.specs.Layouts.{half_len, image_size, other}
use Rattle.alm_checkpoint.specs.Headers.{half_head_text}
use Rattle.alm_checkpoint.specs.Cut.{head_before, side_front, side_back}
use Rattle.alm_checkpoint.proofs.Pieces.{part_is}
use Rattle.alm_keeper.specs.Stand.{Account, Ready, end_of_half, other_at}
use Rattle.alm_keeper.specs.Piecewise.{Copy, since_text, open_text, run_text, IsCopy, is_sent, Paused, with_sent_bytes}
use Rattle.alm_checkpoint.proofs.HeaderLaws.{head_long}
use Rattle.alm_keeper.proofs.Piecewise.{ready_blind, there, ahead_long}

pub take_both : (m n : ℕ) (l : List ℕ) → m ≤ length l → take (m + n) l ≡ take m l ++ take n (drop m l)
take_both m n l le =
    let long : length (take m l) ≡ m = length-take-le m l le in
    (λ i. take (sym long i + n) (sym (take-append-drop m l) i)) ∙ take-append-add (take m l) (drop m l) n

-- ---- lengths

pub open_long : (a : Account) (k : Copy) → IsCopy a k → length (open_text a k) ≡ 24 + image_size a.layout + length (since_text a k)
open_long a k c =
    let image : length (image_text k.base) ≡ image_size a.layout = image_length k.base c.image.rules ∙ (λ i. image_len (c.sizes.by_rows i) (c.sizes.by_areas i)) in
    omega (
      arith,
      image,
      head_long a.layout (other a.half) (head_before (newer a.version) (a.epoch + 1) k.base),
      length-append (half_head_text a.layout (other a.half) (head_before (newer a.version) (a.epoch + 1) k.base) ++ image_text k.base) (since_text a k),
      length-append (half_head_text a.layout (other a.half) (head_before (newer a.version) (a.epoch + 1) k.base)) (image_text k.base),
    )

pub run_long : (a : Account) (k : Copy) → IsCopy a k → length (run_text a k) ≡ 25 + image_size a.layout + length (since_text a k)
run_long a k c = omega (arith, open_long a k c, length-append (open_text a k) (closed_gate (newer a.version) ∷ []))

pub run_fits : (a : Account) (k : Copy) → IsCopy a k → a.gate + 1 ≤ end_of_half a → length (run_text a k) + 1 ≤ half_len a.layout
run_fits a k c gate = omega (arith, run_long a k c, c.room, gate)

pub ready_long : (a : Account) (b : List ℕ) → Ready a b → other_at a + half_len a.layout ≤ length b
ready_long a b r =
    subst (λ (y : Account). other_at y + half_len y.layout ≤ length b) (sym r.is)
    (omega (
      arith,
      ap length (r.text ∙ there r.cut a.plant r.gate r.tail r.stores r.closed r.reaches r.cut.other),
      ahead_long r.cut a.plant r.gate r.tail r.stores r.closed r.reaches,
      r.stores.size,
      length-append (side_front r.cut r.cut.half (r.gate ∷ r.tail) ++ r.cut.other) (side_back r.cut r.cut.half (r.gate ∷ r.tail)),
      length-append (side_front r.cut r.cut.half (r.gate ∷ r.tail)) r.cut.other,
    ))

-- ---- places

pub grows : (s m n place : ℕ) → is_within s (m + n) place ≡ false → (is_within s m place ≡ false) × (is_within (s + m) n place ≡ false)
grows s m n place out = ⊎_elim (λ lt. (below s m place lt, below (s + m) n place (omega (arith, lt)))) (λ le. (above s m place (omega (arith, le)), above (s + m) n place (omega (arith, le)))) (outside_cases s (m + n) place out)

-- ---- a piece

module _ (a : Account) (k : Copy) (n : ℕ) (state new : DeviceState) (c : IsCopy a k) (gate : a.gate + 1 ≤ end_of_half a) (within : k.out + n ≤ length (run_text a k)) (p : Paused a k state) where
  abbrev run : List ℕ
  run = run_text a k

  abbrev at : ℕ
  at = other_at a + 1 + k.out

  abbrev piece : List ℕ
  piece = take n (drop k.out run)

  piece_long : length piece ≡ n
  piece_long = length-take-le n (drop k.out run) (omega (arith, within, length-drop k.out run))

  inside : k.out + n + 1 ≤ half_len a.layout
  inside = omega (arith, within, run_fits a k c gate)

  free : (place : ℕ) → is_sent a (k.out + n) place ≡ false → (is_within at (length piece) place ≡ false) × (state.pending place ≡ false)
  free place out =
      let parts = grows (other_at a + 1) k.out n place out in
      ((λ i. is_within at (piece_long i) place) ∙ parts.1, p.rests.within place parts.0)

  module _ {E : Type 0} (result : Result Unit E) (writes : Writes at piece result state new) where
    unpending : (place : ℕ) → is_sent a (k.out + n) place ≡ false → new.pending place ≡ false
    unpending place out =
        let f = free place out in
        writes.pending place ∙ (λ i. f.0 i || state.pending place) ∙ f.1

    beside : (b : List ℕ) → length b ≡ length new.bytes → ((place : ℕ) → is_sent a (k.out + n) place ≡ false → byte_of b place ≡ byte_of new.bytes place) → Ready a b
    beside b long same =
        ready_blind a (k.out + n) c.shut inside p.bytes b p.ready
        (record { size = long ∙ writes.size ∙ ap length p.rests.reads; same = λ place out. same place out ∙ writes.outside place (free place out).0 ∙ ap (λ (l : List ℕ). byte_of l place) p.rests.reads })

    -- done or failed, every image is what it was
    pub piece_images : (b : List ℕ) → IsLeft new b → Ready a b
    piece_images b image = beside b image.size (λ place out. image.stable place (unpending place out))

  pub piece_goes : (E : Type 0) → Writes {E = E} at piece (Ok tt) state new → Paused a (with_sent_bytes k n) new
  piece_goes E writes = record {
    images = piece_images {E = E} (Ok tt) writes;
    bytes = new.bytes;
    ready = beside {E = E} (Ok tt) writes new.bytes refl (λ place out. refl);
    rests = record { reads = refl; within = unpending {E = E} (Ok tt) writes; sound = writes.done ∙ p.rests.sound };
    wrote = part_is (other_at a + 1) (length (take (k.out + n) run)) (take (other_at a + 1) state.bytes) (take (k.out + n) run) (drop (at + length piece) state.bytes) new.bytes front_long_is refl text;
  }
    where
      long : other_at a + 1 + k.out ≤ length state.bytes
      long = omega (arith, ready_long a p.bytes p.ready, ap length p.rests.reads, inside)

      front_long_is : length (take (other_at a + 1) state.bytes) ≡ other_at a + 1
      front_long_is = length-take-le (other_at a + 1) state.bytes (omega (arith, long))

      out_long : length (take k.out run) ≡ k.out
      out_long = length-take-le k.out run (omega (arith, within))

      went_out : take k.out (drop (other_at a + 1) state.bytes) ≡ take k.out run
      went_out = (λ i. take (sym out_long i) (drop (other_at a + 1) state.bytes)) ∙ p.wrote

      three : (x y z w : List ℕ) → (x ++ y) ++ z ++ w ≡ x ++ ((y ++ z) ++ w)
      three x y z w = simp append_assoc

      text : new.bytes ≡ take (other_at a + 1) state.bytes ++ (take (k.out + n) run ++ drop (at + length piece) state.bytes)
      text =
          writes.written
          ∙ ap (λ (l : List ℕ). l ++ piece ++ drop (at + length piece) state.bytes) (take_both (other_at a + 1) k.out state.bytes (omega (arith, long)) ∙ ap (λ (l : List ℕ). take (other_at a + 1) state.bytes ++ l) went_out)
          ∙ three (take (other_at a + 1) state.bytes) (take k.out run) piece (drop (at + length piece) state.bytes)
          ∙ ap (λ (l : List ℕ). take (other_at a + 1) state.bytes ++ (l ++ drop (at + length piece) state.bytes)) (sym (take_both k.out n run (omega (arith, within))))
