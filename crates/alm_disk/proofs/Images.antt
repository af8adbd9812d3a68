-- What a crash may leave of a device, call by call.
use Rattle.std.proofs.Common.{◌≡◌, ⊎_elim, ◌<◌, ◌≤◌, ◌+◌, ℕ, false, ◌||◌, List, ◌++◌, length, get_or, take, drop, Result, Ok, Err, refl, sym, ◌∙◌, ap, subst, arith, length-append, length-drop, take-append-drop, append_assoc}
use Rattle.std.proofs.lemmas.List.{get_or_append_left, get_or-append_right, get_or-append-add, get_or-take, get_or-drop, length-take-le, take_at, drop_at, drop-drop, ext_get_or}
use Rattle.std.proofs.lemmas.Bool.{or_parts}
use Rattle.alm_disk.specs.Device.{DeviceState, AreBytes, IsImage, IsSame, Writes, Syncs, byte_at, is_within}
use Rattle.alm_disk.specs.Settled.{IsSettled, AwaitsSync}
use Rattle.alm_disk.proofs.Places.{below, above, outside_cases}

-- a crash leaves of a settled device what it reads
pub settled_image : (state : DeviceState) (bytes image : List ℕ) → IsSettled state bytes → IsImage state image → image ≡ bytes
settled_image state bytes image settled left =
    ext_get_or 0 image state.bytes left.size (λ place _. left.stable place (settled.nothing_pending place)) ∙ settled.reads

-- a list that differs only in the middle
pub middle : (front old back list : List ℕ) → length list ≡ length (front ++ old ++ back)
    → ((place : ℕ) → is_within (length front) (length old) place ≡ false → byte_at list place ≡ byte_at (front ++ old ++ back) place)
    → (mid : List ℕ) × (length mid ≡ length old) × (list ≡ front ++ mid ++ back)
middle front old back list long outside =
    let size : length list ≡ length front + length old + length back = omega (arith, length-append (front ++ old) back, length-append front old) in
    let mid = take (length old) (drop (length front) list) in
    let mid_long : length mid ≡ length old = length-take-le (length old) (drop (length front) list) (omega (arith, length-drop (length front) list)) in
    let first : take (length front) list ≡ front =
    ext_get_or 0 (take (length front) list) front (length-take-le (length front) list (omega arith))
    (λ i lt. let in_front : i < length front = omega (arith, length-take-le (length front) list (omega arith)) in
    get_or-take (length front) list i 0 in_front ∙ outside i (below (length front) (length old) i in_front)
    ∙ get_or_append_left (front ++ old) back 0 i (omega (arith, length-append front old)) ∙ get_or_append_left front old 0 i in_front) in
    let last : drop (length front + length old) list ≡ back =
    ext_get_or 0 (drop (length front + length old) list) back (omega (arith, length-drop (length front + length old) list))
    (λ i lt. get_or-drop (length front + length old) list i 0 ∙ outside (length front + length old + i) (above (length front) (length old) (length front + length old + i) (omega arith))
    ∙ (λ j. get_or (front ++ old ++ back) (shift i j) 0) ∙ get_or-append-add (front ++ old) back i 0) in
    let joined : list ≡ front ++ mid ++ back =
    sym (take-append-drop (length front) list) ∙ ap (λ (l : List ℕ). l ++ drop (length front) list) first
    ∙ ap (λ (l : List ℕ). front ++ l) (sym (take-append-drop (length old) (drop (length front) list)) ∙ ap (λ (l : List ℕ). mid ++ l) (rest ∙ last))
    ∙ sym (append_assoc front mid back) in
    (mid, mid_long, joined)
  where
    shift : (i : ℕ) → length front + length old + i ≡ length (front ++ old) + i
    shift i = omega (arith, length-append front old)

    rest : drop (length old) (drop (length front) list) ≡ drop (length front + length old) list
    rest = drop-drop (length old) (length front) list

-- a crash leaves, after a write into a settled device, what read outside its range, and any bytes in it
pub written_image : {E : Type 0} (result : Result Unit E) (state new : DeviceState) (at : ℕ) (bytes front old back image : List ℕ)
    → IsSettled state (front ++ old ++ back) → Writes at bytes result state new → at ≡ length front → length bytes ≡ length old → IsImage new image
    → (mid : List ℕ) × (length mid ≡ length old) × (image ≡ front ++ mid ++ back)
written_image result state new at bytes front old back image settled writes place long left =
    middle front old back image (left.size ∙ writes.size ∙ ap length settled.reads)
    (λ i out. let here : is_within at (length bytes) i ≡ false = (λ j. is_within (place j) (long j) i) ∙ out in
    left.stable i (writes.pending i ∙ (λ j. here j || state.pending i) ∙ settled.nothing_pending i) ∙ writes.outside i here ∙ ap (λ (l : List ℕ). byte_at l i) settled.reads)

-- two lists that differ only in the middle read the same outside it
same_outside : (front old mid back : List ℕ) → length mid ≡ length old → (place : ℕ) → is_within (length front) (length old) place ≡ false → byte_at (front ++ mid ++ back) place ≡ byte_at (front ++ old ++ back) place
same_outside front old mid back long place out = ⊎_elim before behind (outside_cases (length front) (length old) place out)
  where
    in_front : (list : List ℕ) → place < length front → byte_at (front ++ list ++ back) place ≡ byte_at front place
    in_front list lt = get_or_append_left (front ++ list) back 0 place (omega (arith, length-append front list)) ∙ get_or_append_left front list 0 place lt

    before : place < length front → byte_at (front ++ mid ++ back) place ≡ byte_at (front ++ old ++ back) place
    before lt = in_front mid lt ∙ sym (in_front old lt)

    behind : length front + length old ≤ place → byte_at (front ++ mid ++ back) place ≡ byte_at (front ++ old ++ back) place
    behind le =
        get_or-append_right (front ++ mid) back (length front + length old) place 0 (omega (arith, length-append front mid)) le
        ∙ sym (get_or-append_right (front ++ old) back (length front + length old) place 0 (length-append front old) le)

-- a crash may leave any bytes in the range of a write
pub any_image : {E : Type 0} (result : Result Unit E) (state new : DeviceState) (at : ℕ) (bytes front old mid back : List ℕ)
    → IsSettled state (front ++ old ++ back) → Writes at bytes result state new → at ≡ length front → length bytes ≡ length old → length mid ≡ length old
    → AreBytes (front ++ mid ++ back) → IsImage new (front ++ mid ++ back)
any_image result state new at bytes front old mid back settled writes place long fits are_bytes = record {
  size = omega (arith, writes.size, ap length settled.reads, length-append (front ++ old) back, length-append front old, length-append (front ++ mid) back, length-append front mid);
  bytes = are_bytes;
  stable = λ i still.
      let out = or_parts (is_within at (length bytes) i) (state.pending i) (sym (writes.pending i) ∙ still) in
      let there : is_within (length front) (length old) i ≡ false = (λ j. is_within (sym place j) (sym long j) i) ∙ out.0 in
      same_outside front old mid back fits i there ∙ sym (ap (λ (l : List ℕ). byte_at l i) settled.reads) ∙ sym (writes.outside i out.0);
}

-- what holds with any bytes in the range holds of each image after the write, done or failed
pub write_leaves : {E : Type 0} (result : Result Unit E) (state new : DeviceState) (at : ℕ) (bytes front old back read : List ℕ) (P : List ℕ → Type 0)
    → read ≡ front ++ old ++ back → IsSettled state read → Writes at bytes result state new → at ≡ length front → length bytes ≡ length old
    → ((mid : List ℕ) → length mid ≡ length old → P (front ++ mid ++ back)) → (image : List ℕ) → IsImage new image → P image
write_leaves result state new at bytes front old back read P is settled writes place long any image left =
    let found = written_image result state new at bytes front old back image (subst (IsSettled state) is settled) writes place long left in
    subst P (sym found.2) (any found.0 found.1)

-- a write that was done into a settled device reads as written, and awaits its sync
pub written : {E : Type 0} (state new : DeviceState) (at : ℕ) (bytes front old back : List ℕ)
    → IsSettled state (front ++ old ++ back) → Writes {E = E} at bytes (Ok tt) state new → at ≡ length front → length bytes ≡ length old
    → AwaitsSync at (length bytes) new (front ++ bytes ++ back)
written state new at bytes front old back settled writes place long = record {
  reads = writes.written ∙ (λ i. take (place i) (settled.reads i) ++ bytes ++ drop (place i + long i) (settled.reads i)) ∙ (λ i. take_front i ++ bytes ++ drop_back i);
  within = λ i out. writes.pending i ∙ (λ j. out j || state.pending i) ∙ settled.nothing_pending i;
  sound = writes.done ∙ settled.sound;
}
  where
    take_front : take (length front) (front ++ old ++ back) ≡ front
    take_front = ap (take (length front)) (append_assoc front old back) ∙ take_at front (old ++ back) (length front) refl

    drop_back : drop (length front + length old) (front ++ old ++ back) ≡ back
    drop_back = drop_at (front ++ old) back (length front + length old) (length-append front old)

-- a write takes no image away
pub kept_image : {E : Type 0} (result : Result Unit E) (state new : DeviceState) (at : ℕ) (bytes image : List ℕ)
    → Writes at bytes result state new → IsImage state image → IsImage new image
kept_image result state new at bytes image writes left = record {
  size = left.size ∙ sym writes.size;
  bytes = left.bytes;
  stable = λ i still.
      let out = or_parts (is_within at (length bytes) i) (state.pending i) (sym (writes.pending i) ∙ still) in
      left.stable i out.1 ∙ sym (writes.outside i out.0);
}

-- after a successful sync, if no call had failed, the device is settled as it read
pub synced : {E : Type 0} (state new : DeviceState) (at n : ℕ) (bytes : List ℕ) → AwaitsSync at n state bytes → Syncs {E = E} (Ok tt) state new → IsSettled new bytes
synced state new at n bytes awaits syncs = record { reads = syncs.read_stays awaits.sound ∙ awaits.reads; nothing_pending = syncs.nothing_pending; sound = syncs.done }

-- no sync, done or failed, makes a new image
pub synced_image : {E : Type 0} (result : Result Unit E) (state new : DeviceState) (image : List ℕ) → Syncs result state new → IsImage new image → IsImage state image
synced_image (Ok _) state new image syncs left =
    let same : image ≡ new.bytes = ext_get_or 0 image new.bytes left.size (λ i _. left.stable i (syncs.nothing_pending i)) in
    subst (IsImage state) (sym same) syncs.one_image
synced_image (Err e) state new image syncs left = syncs.no_new_image image left

-- a device that is the same has no other image
pub same_image : (state new : DeviceState) (image : List ℕ) → IsSame state new → IsImage new image → IsImage state image
same_image state new image same left = record {
  size = left.size ∙ ap length same.bytes;
  bytes = left.bytes;
  stable = λ i still. left.stable i (same.pending i ∙ still) ∙ ap (λ (l : List ℕ). byte_at l i) same.bytes;
}

-- and it is as settled
pub same_settled : (state new : DeviceState) (bytes : List ℕ) → IsSame state new → IsSettled state bytes → IsSettled new bytes
same_settled state new bytes same settled = record {
  reads = same.bytes ∙ settled.reads;
  nothing_pending = λ i. same.pending i ∙ settled.nothing_pending i;
  sound = same.faulted ∙ settled.sound;
}
