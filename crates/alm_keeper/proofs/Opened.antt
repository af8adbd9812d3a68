-- What an opened device is.
use Rattle.std.proofs.Common.{[], ◌≡◌, inl, inr, ⊎_elim, ℕ, ◌^◌, ◌<◌, ◌≤◌, List, length, Result, Ok, Err, sym, ◌∙◌, ap, subst, arith}
use Rattle.std.specs.Prelude.{OnOk, IfOk}
use Rattle.alm_disk.specs.Device.{AreBytes}
use Rattle.alm_checkpoint.specs.declared.layout.Layout.{Layout}
use Rattle.alm_checkpoint.specs.declared.half.Half.{Half}
use Rattle.alm_checkpoint.specs.declared.half_head.HalfHead.{HalfHead}
use Rattle.alm_checkpoint.specs.declared.device_fault.DeviceFault.{DeviceFault}
use Rattle.alm_checkpoint.specs.declared.device_fault.DeviceFault.TheVariants as found
use Rattle.alm_checkpoint.specs.declared.restore_fault.RestoreFault.TheVariants as unrestored
use Rattle.alm_checkpoint.specs.Layouts.{layout_byte, is_half_open, part, other, image_at, image_size, segment_at, device_len}
use Rattle.alm_checkpoint.specs.Cut.{front}
use Rattle.alm_checkpoint.specs.Opening.{◌>>=◌, opened_half, layout_in, heads_in, gate_in, opened_in}
use Rattle.alm_checkpoint.specs.Standing.{HasFault}
use Rattle.alm_checkpoint.specs.Restoring.{IsUnrestored}
use Rattle.alm_checkpoint.specs.Restoring.{Holds as RestoredAs}
use Rattle.alm_checkpoint.proofs.CutOf.{cut_at}
use Rattle.alm_checkpoint.proofs.Shown.{head_is}
use Rattle.alm_store.specs.declared.open_fault.OpenFault.{OpenFault}
use Rattle.alm_store.specs.declared.open_fault.OpenFault.TheVariants.{Unformatted, Damaged, Disk, OutOfMemory}
use Rattle.alm_keeper.specs.declared.opening.Marks.{Marks}
use Rattle.alm_keeper.specs.declared.book.Book.{Book}
use Rattle.alm_keeper.specs.Stand.{Account, Ready}
use Rattle.alm_keeper.specs.Keeping.{account, FitsDevice}
use Rattle.alm_keeper.specs.Opening.{IsReadOf, OpensAs, AreMarks, Restores}
use Rattle.alm_codec.specs.declared.asked.Asked.{Asked}
use Rattle.alm_keeper.specs.Stand.{saying}
use Rattle.alm_keeper.specs.Trail.{asked_in}

-- the header is damaged
header_fault : (b : List ℕ) (fault : DeviceFault) → layout_in b ≡ Err fault → HasFault b fault
unfolding opened_in
header_fault b fault e = inl (ap (λ (r : Result Layout DeviceFault). r >>= λ l. heads_in l b >>= λ x. Ok (opened_half l x.0 x.1 b)) e)

pub layout_fault : (b : List ℕ) (f : OpenFault) → IsReadOf {A = Layout} (Err f) (layout_in b) → OpensAs b (Err f)
layout_fault b Unformatted e = header_fault b found.Unformatted e
layout_fault b (Damaged half at) e = header_fault b (found.Damaged half at) e
layout_fault b Disk e = tt
layout_fault b OutOfMemory e = tt

heads_fault : (l : Layout) (b : List ℕ) (fault : DeviceFault) → layout_in b ≡ Ok l → heads_in l b ≡ Err fault → HasFault b fault
unfolding opened_in
heads_fault l b fault header e =
    inl (ap (λ (r : Result Layout DeviceFault). r >>= λ l. heads_in l b >>= λ x. Ok (opened_half l x.0 x.1 b)) header
    ∙ ap (λ (r : Result (Half × HalfHead) DeviceFault). r >>= λ x. Ok (opened_half l x.0 x.1 b)) e)

pub marks_fault : (l : Layout) (b : List ℕ) (f : OpenFault) → layout_in b ≡ Ok l → AreMarks l b (Err f) → OpensAs b (Err f)
marks_fault l b Unformatted header e = heads_fault l b found.Unformatted header e
marks_fault l b (Damaged half at) header e = heads_fault l b (found.Damaged half at) header e
marks_fault l b Disk header e = tt
marks_fault l b OutOfMemory header e = tt

module _ (b : List ℕ) (l : Layout) (m : Marks) (bytes : AreBytes b) (header : layout_in b ≡ Ok l) (marks : AreMarks l b (Ok m)) where
  opened_is : opened_in b ≡ Ok (opened_half l m.half m.head b)
  unfolding opened_in
  opened_is =
      ap (λ (r : Result Layout DeviceFault). r >>= λ l. heads_in l b >>= λ x. Ok (opened_half l x.0 x.1 b)) header
      ∙ ap (λ (r : Result (Half × HalfHead) DeviceFault). r >>= λ x. Ok (opened_half l x.0 x.1 b)) marks.0

  ready : (book : Book) → RestoredAs (opened_half l m.half m.head b) book.stored book.gate
      → account book ≡ record { layout = l; half = m.half; other_open = m.other_open; version = m.head.version; epoch = m.head.epoch; gate = book.gate; plant = book.stored; trail = [] } → (trail : List Asked) × Ready (saying trail (account book)) b
  ready book h is =
      let c = cut_at b l m.half m.head h.base book.stored h.left bytes header marks.0 h.spells h.folds in
      let gate : book.gate ≡ length (front c.cut) = omega (arith, h.gate_is, c.gate_there) in
      let beside : m.other_open ≡ is_half_open (layout_byte c.cut.other 0) =
      marks.1 ∙ ap gate_in (head_is l b (other m.half)) ∙ c.of_other in
      let trail : List Asked = asked_in c.cut.frames in (
        trail,
        record {
          cut = c.cut;
          is = ap (saying trail) is ∙ (λ i. record { layout = sym c.of_layout i; half = sym c.of_half i; other_open = beside i; version = sym c.of_version i; epoch = sym c.of_epoch i; gate = gate i; plant = book.stored; trail = trail });
          stores = c.stores;
          gate = c.gate;
          closed = c.shut;
          tail = c.tail;
          reaches = c.reaches;
          text = c.is;
        },
      )

  unrestored_fault : (fault : DeviceFault) → IsUnrestored (opened_half l m.half m.head b) (unrestored.Damaged fault) → HasFault b fault
  unrestored_fault fault u = ⊎_elim
      (λ d. inr (inl (record { opened = opened_half l m.half m.head b; opens = opened_is; at = d.at; damage = d.damage; is = d.is })))
      (λ d. inr (inr (record { opened = opened_half l m.half m.head b; opens = opened_is; base = d.base; spells = d.spells; left = d.left; folds = d.folds; is = d.is }))) u

  by_result : (result : Result Book OpenFault) → Restores l m (part (image_at l m.half) (image_size l) b) (part (segment_at l m.half) l.segment b) result → OpensAs b result
  by_result (Ok book) r = ready book r.0 r.1
  by_result (Err Disk) r = tt
  by_result (Err OutOfMemory) r = tt
  by_result (Err Unformatted) r = unrestored_fault found.Unformatted r
  by_result (Err (Damaged half at)) r = unrestored_fault (found.Damaged half at) r

  pub opens_by : (image segment : List ℕ) (result : Result Book OpenFault) → image ≡ part (image_at l m.half) (image_size l) b → segment ≡ part (segment_at l m.half) l.segment b → Restores l m image segment result → OpensAs b result
  opens_by image segment result i s r =
      by_result result (subst (λ (x : List ℕ). Restores l m x (part (segment_at l m.half) l.segment b) result) i (subst (λ (x : List ℕ). Restores l m image x result) s r))

pub fits_by : (l : Layout) (m : Marks) (image segment : List ℕ) (size : ℕ) (result : Result Book OpenFault) → Restores l m image segment result → device_len l ≤ size → size < 2 ^ 64 → IfOk result (λ book. FitsDevice book size)
fits_by l m image segment size (Ok book) r fits small = record { fits = subst (λ (x : Layout). device_len x ≤ size) (sym (ap (λ (a : Account). a.layout) r.1)) fits; in_memory = small }
fits_by l m image segment size (Err f) r fits small = tt

pub on_ok : {A E : Type 0} (r : Result A E) (T : Type 0) → T → OnOk r T
on_ok (Ok x) T t = t
on_ok (Err e) T t = tt
