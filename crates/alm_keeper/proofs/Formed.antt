-- A device that is formatted.
use Rattle.std.proofs.Common.{◌≡◌, ◌⊎◌, inl, inr, ⊎_elim, ℕ, ◌≤◌, false, List, [], ◌∷◌, ◌++◌, length, Result, Ok, Err, refl, sym, ◌∙◌, ap, subst, arith}
use Rattle.std.specs.Prelude.{OnOk, OnErr}
use Rattle.std.proofs.lemmas.Bool.{cases_eq, ne_eqb, or_parts}
use Rattle.alm_disk.specs.Device.{DeviceState, IsImage, Writes, Syncs, is_within}
use Rattle.alm_disk.specs.Settled.{IsSettled}
use Rattle.alm_disk.proofs.Images.{settled_image, written_image, synced_image}
use Rattle.alm_checkpoint.specs.Layouts.{is_header_open}
use Rattle.alm_checkpoint.specs.Layouts.{layout_byte}
use Rattle.alm_checkpoint.specs.declared.layout.Layout.{Layout}
use Rattle.alm_keeper.specs.Formatting.{IsUnformatted, LeavesBefore, with_empty_half, with_open_gate, MayBe}
use Rattle.alm_keeper.proofs.Shut.{unformatted}

pub ok_map : {A E : Type 0} {P Q : Type 0} (r : Result A E) → (P → Q) → OnOk r P → OnOk r Q
ok_map (Ok x) f p = f p
ok_map (Err e) f p = tt

pub err_of : {A E : Type 0} {P : Type 0} (r : Result A E) → P → OnErr r P
err_of (Ok x) p = tt
err_of (Err e) p = p

-- a header's gate that is not open
by_gate : (g : ℕ) (b : List ℕ) → IsUnformatted (g ∷ b) ⊎ ((g ∷ b) ≡ (165 ∷ b))
by_gate g b = elim (cases_eq g 165) [
  | inl with_open_gate ↦ inr (ap (λ (n : ℕ). n ∷ b) with_open_gate)
  | inr shut ↦ inl (unformatted (g ∷ b) (ne_eqb g 165 shut))
]

-- an image of a device whose header's gate is written
gate_image : {E : Type 0} (result : Result Unit E) (state new : DeviceState) (b c : List ℕ) → 1 ≤ length b → IsSettled state b → Writes 0 (165 ∷ []) result state new → IsImage new c → IsUnformatted c ⊎ (c ≡ with_open_gate b)
gate_image result state new [] c long settled writes image = absurd (omega arith)
gate_image result state new (g ∷ b) c long settled writes image =
    let left = written_image result state new 0 (165 ∷ []) [] (g ∷ []) b c settled writes refl refl image in
    by_mid left.0 left.1 left.2
  where
    by_mid : (mid : List ℕ) → length mid ≡ 1 → c ≡ [] ++ mid ++ b → IsUnformatted c ⊎ (c ≡ with_open_gate (g ∷ b))
    by_mid [] short is = absurd (omega arith)
    by_mid (h ∷ []) short is = subst (λ (x : List ℕ). IsUnformatted x ⊎ (x ≡ 165 ∷ b)) (sym is) (by_gate h b)
    by_mid (h ∷ i ∷ mid) short is = absurd (omega arith)

pub gate_moments : {E : Type 0} (result : Result Unit E) (state new : DeviceState) (b c : List ℕ) → 1 ≤ length b → IsSettled state b → is_header_open (layout_byte b 0) ≡ false → Writes 0 (165 ∷ []) result state new
    → IsImage state c ⊎ IsImage new c → IsUnformatted c ⊎ (c ≡ with_open_gate b)
gate_moments result state new b c long settled closed writes moment =
    ⊎_elim (λ image. inl (subst IsUnformatted (sym (settled_image state b c settled image)) (unformatted b closed))) (gate_image result state new b c long settled writes) moment

pub may_be : (size : ℕ) (l : Layout) (header half before c : List ℕ) → length before ≡ size → IsUnformatted c ⊎ (c ≡ with_open_gate (with_empty_half l header half before)) → MayBe size l header half c
may_be size l header half before c long either = ⊎_elim (λ u. inl u) (λ is. inr (record { before = before; long = long; is = is })) either

-- the header's gate was written and the sync failed
pub before_of : {E F : Type 0} (result : Result Unit E) (later : Result Unit F) (old mid new : DeviceState) → Writes 0 (0 ∷ []) result old mid → Syncs later mid new → LeavesBefore old new
before_of result later old mid new writes syncs b image =
    let left = synced_image later mid new b syncs image in
    record {
      size = left.size ∙ writes.size;
      bytes = left.bytes;
      stable = λ i still. left.stable i (writes.pending i ∙ still) ∙ writes.outside i (or_parts (is_within 0 1 i) (old.pending i) still).0;
    }
