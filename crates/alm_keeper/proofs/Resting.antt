-- What each call leaves of a device with loose places.
use Rattle.std.proofs.Common.{◌≡◌, inl, inr, ◌⊎◌, ⊎_elim, ℕ, ◌+◌, ◌-◌, ◌≤◌, ◌<◌, Bool, false, ◌||◌, nat_lt, nat_le, List, [], ◌∷◌, ◌++◌, length, get_or, take, drop, Result, Ok, Err, refl, sym, ◌∙◌, ap, subst, arith, append_assoc, length-append, length-drop}
use Rattle.std.proofs.lemmas.Bool.{or_parts, cases_Bool, and_parts, leb-true, ltb-true}
use Rattle.std.proofs.lemmas.List.{get_or_append_left, get_or-append_right, get_or-take, get_or-drop, length-take-le, take_at, drop_at}
use Rattle.alm_disk.specs.Device.{DeviceState, IsImage, Writes, Syncs, byte_at, is_within}
use Rattle.alm_disk.proofs.Images.{synced_image}
use Rattle.alm_disk.proofs.Places.{outside_cases}
use Rattle.alm_keeper.specs.Resting.{RestsBut, or_within, IsBeside, Blind, Guarded, with_gate, Kept, Passes}
use Rattle.alm_keeper.specs.Stages.{stage_after}
use Rattle.alm_keeper.specs.declared.stage.Stage.TheVariants.{Body, BodySync, Gate, GateSync}

-- ---- lists that differ in the middle

pub same_outside : (front old mid back : List ℕ) → length mid ≡ length old → (place : ℕ) → is_within (length front) (length old) place ≡ false → byte_at (front ++ mid ++ back) place ≡ byte_at (front ++ old ++ back) place
same_outside front old mid back long place out = ⊎_elim before behind (outside_cases (length front) (length old) place out)
  where
    in_front : (list : List ℕ) → place < length front → byte_at (front ++ list ++ back) place ≡ byte_at front place
    in_front list lt = get_or_append_left (front ++ list) back 0 place (omega (arith, length-append front list)) ∙ get_or_append_left front list 0 place lt

    before : place < length front → byte_at (front ++ mid ++ back) place ≡ byte_at (front ++ old ++ back) place
    before lt = in_front mid lt ∙ sym (in_front old lt)

    behind : length front + length old ≤ place → byte_at (front ++ mid ++ back) place ≡ byte_at (front ++ old ++ back) place
    behind le =
        get_or-append_right (front ++ mid) back (length front + length old) place 0 (omega (arith, length-append front mid)) le
        ∙ sym (get_or-append_right (front ++ old) back (length front + length old) place 0 (length-append front old) le)

module _ (loose : ℕ → Bool) (front old back list : List ℕ) (long : length list ≡ length (front ++ old ++ back))
    (outside : (place : ℕ) → is_within (length front) (length old) place ≡ false → loose place ≡ false → byte_at list place ≡ byte_at (front ++ old ++ back) place) where
  abbrev mid : List ℕ
  mid = take (length old) (drop (length front) list)

  total : length list ≡ length front + length old + length back
  total = omega (arith, long, length-append (front ++ old) back, length-append front old)

  mid_long : length mid ≡ length old
  mid_long = length-take-le (length old) (drop (length front) list) (omega (arith, total, length-drop (length front) list))

  same_long : length list ≡ length (front ++ mid ++ back)
  same_long = omega (arith, total, mid_long, length-append (front ++ mid) back, length-append front mid)

  inside : (place : ℕ) → length front ≤ place → place < length front + length old → byte_at list place ≡ byte_at (front ++ mid ++ back) place
  inside place ge lt =
      let i = place - length front in
      let back_there : length front + i ≡ place = omega (arith, ge) in
      sym (
      get_or_append_left (front ++ mid) back 0 place (omega (arith, lt, mid_long, length-append front mid))
      ∙ get_or-append_right front mid (length front) place 0 refl ge
      ∙ get_or-take (length old) (drop (length front) list) i 0 (omega (arith, lt, ge))
      ∙ get_or-drop (length front) list i 0
      ∙ ap (λ (n : ℕ). get_or list n 0) back_there
      )

  same : (place : ℕ) → loose place ≡ false → byte_at list place ≡ byte_at (front ++ mid ++ back) place
  same place free = elim (cases_Bool (is_within (length front) (length old) place)) [
    | inl within ↦ let p = and_parts (nat_le (length front) place) (nat_lt place (length front + length old)) within in
        inside place (leb-true (length front) place p.0) (ltb-true place (length front + length old) p.1)
    | inr out ↦ outside place out free ∙ sym (same_outside front old mid back mid_long place out)
  ]

  -- a list that differs in the middle and in the loose places: with the middle put in, it differs only in the loose
  -- places
  pub over : (mid : List ℕ) × (length mid ≡ length old) × IsBeside loose (front ++ mid ++ back) list
  over = (mid, mid_long, record { size = same_long; same = same })

-- ---- what a crash leaves

-- a range was written that is awaited: what is true with any bytes there, and doesn't depend on the loose places, is true of each
-- image
pub left_over : (loose : ℕ → Bool) (state : DeviceState) (at n : ℕ) (front old back c : List ℕ) (P : List ℕ → Type 0) → Blind loose P
    → RestsBut (or_within at n loose) state (front ++ old ++ back) → at ≡ length front → n ≡ length old
    → ((mid : List ℕ) → length mid ≡ length old → P (front ++ mid ++ back)) → IsImage state c → P c
left_over loose state at n front old back c P blind rests place long any image =
    let found = over loose front old back c (image.size ∙ ap length rests.reads)
    (λ i out free. image.stable i (rests.within i ((λ j. is_within (place j) (long j) i || loose i) ∙ (λ j. out j || loose i) ∙ free)) ∙ ap (λ (l : List ℕ). byte_at l i) rests.reads) in
    blind (front ++ found.0 ++ back) c (any found.0 found.1) found.2

-- only loose places are pending
pub resting : (loose : ℕ → Bool) (state : DeviceState) (b c : List ℕ) (P : List ℕ → Type 0) → Blind loose P → RestsBut loose state b → P b → IsImage state c → P c
resting loose state b c P blind rests is image =
    blind b c is (record { size = image.size ∙ ap length rests.reads; same = λ i free. image.stable i (rests.within i free) ∙ ap (λ (l : List ℕ). byte_at l i) rests.reads })

-- a write: what was pending and its range are
pub writes_rest : {E : Type 0} (loose : ℕ → Bool) (state new : DeviceState) (at : ℕ) (bytes front old back : List ℕ)
    → RestsBut loose state (front ++ old ++ back) → Writes {E = E} at bytes (Ok tt) state new → at ≡ length front → length bytes ≡ length old
    → RestsBut (or_within at (length bytes) loose) new (front ++ bytes ++ back)
writes_rest loose state new at bytes front old back rests writes place long = record {
  reads = writes.written ∙ (λ i. take (place i) (rests.reads i) ++ bytes ++ drop (place i + long i) (rests.reads i)) ∙ (λ i. take_front i ++ bytes ++ drop_back i);
  within = λ i out.
      let parts = or_parts (is_within at (length bytes) i) (loose i) out in
      writes.pending i ∙ (λ j. parts.0 j || state.pending i) ∙ rests.within i parts.1;
  sound = writes.done ∙ rests.sound;
}
  where
    take_front : take (length front) (front ++ old ++ back) ≡ front
    take_front = ap (take (length front)) (append_assoc front old back) ∙ take_at front (old ++ back) (length front) refl

    drop_back : drop (length front + length old) (front ++ old ++ back) ≡ back
    drop_back = drop_at (front ++ old) back (length front + length old) (length-append front old)

-- after a write, done or failed, what a crash leaves reads outside its range and the loose places as before
pub write_over : {E : Type 0} (result : Result Unit E) (loose : ℕ → Bool) (state new : DeviceState) (at : ℕ) (bytes front old back c : List ℕ) (P : List ℕ → Type 0) → Blind loose P
    → RestsBut loose state (front ++ old ++ back) → Writes at bytes result state new → at ≡ length front → length bytes ≡ length old
    → ((mid : List ℕ) → length mid ≡ length old → P (front ++ mid ++ back)) → IsImage new c → P c
write_over result loose state new at bytes front old back c P blind rests writes place long any image =
    let found = over loose front old back c (image.size ∙ writes.size ∙ ap length rests.reads)
    (λ i out free.
    let here : is_within at (length bytes) i ≡ false = (λ j. is_within (place j) (long j) i) ∙ out in
    image.stable i (writes.pending i ∙ (λ j. here j || state.pending i) ∙ rests.within i free) ∙ writes.outside i here ∙ ap (λ (l : List ℕ). byte_at l i) rests.reads) in
    blind (front ++ found.0 ++ back) c (any found.0 found.1) found.2

-- after a sync no place is pending, neither what was awaited nor what was loose
pub syncs_rest : {E : Type 0} (loose any : ℕ → Bool) (state new : DeviceState) (b : List ℕ) → RestsBut loose state b → Syncs {E = E} (Ok tt) state new → RestsBut any new b
syncs_rest loose any state new b rests syncs = record { reads = syncs.read_stays rests.sound ∙ rests.reads; within = λ i free. syncs.nothing_pending i; sound = syncs.done }

-- ---- the four calls

at_body : (a b d : List ℕ) (g : ℕ) → a ++ (g ∷ b) ++ d ≡ (a ++ g ∷ []) ++ b ++ d
at_body a b d g = simp append_assoc

at_gate : (a b d : List ℕ) (g : ℕ) → a ++ (g ∷ b) ++ d ≡ a ++ (g ∷ []) ++ (b ++ d)
at_gate a b d g = simp append_assoc

-- one byte was written: what holds with each gate holds of each image
pub any_gate : {E : Type 0} (result : Result Unit E) (loose : ℕ → Bool) (state new : DeviceState) (at g g' : ℕ) (front left back : List ℕ) (P : List ℕ → Type 0) → Blind loose P
    → RestsBut loose state (front ++ (g ∷ left) ++ back) → Writes at (g' ∷ []) result state new → at ≡ length front
    → ((gate : ℕ) → P (front ++ (gate ∷ left) ++ back)) → (c : List ℕ) → IsImage new c → P c
any_gate result loose state new at g g' front left back P blind rests writes place any c image =
    write_over result loose state new at (g' ∷ []) front (g ∷ []) (left ++ back) c P blind (subst (RestsBut loose state) (at_gate front left back g) rests) writes place refl one image
  where
    one : (mid : List ℕ) → length mid ≡ 1 → P (front ++ mid ++ (left ++ back))
    one [] short = absurd (omega arith)
    one (h ∷ []) short = subst P (at_gate front left back h) (any h)
    one (h ∷ i ∷ mid) short = absurd (omega arith)

pub gate_rests : {E : Type 0} (loose : ℕ → Bool) (state new : DeviceState) (at g g' : ℕ) (front left back : List ℕ)
    → RestsBut loose state (front ++ (g ∷ left) ++ back) → Writes {E = E} at (g' ∷ []) (Ok tt) state new → at ≡ length front
    → RestsBut (or_within at 1 loose) new (front ++ (g' ∷ left) ++ back)
gate_rests loose state new at g g' front left back rests writes place =
    subst (RestsBut (or_within at 1 loose) new) (sym (at_gate front left back g'))
    (writes_rest loose state new at (g' ∷ []) front (g ∷ []) (left ++ back) (subst (RestsBut loose state) (at_gate front left back g) rests) writes place refl)

module _ (loose : ℕ → Bool) (Before After : List ℕ → Type 0) (at : ℕ) (text : List ℕ) where
  blind_either : Blind loose Before → Blind loose After → Blind loose (λ b. Before b ⊎ After b)
  blind_either before after b c = λ is beside. ⊎_elim (λ x. inl (before b c x beside)) (λ x. inr (after b c x beside)) is

  either : (k : Guarded loose Before After at text) (gate : ℕ) → Before (with_gate k gate text) ⊎ After (with_gate k gate text)
  either k gate = elim (cases_Bool (k.opens gate)) [
    | inl opened ↦ inr (k.whole gate opened)
    | inr shut ↦ inl (k.closed gate shut text (sym k.fits))
  ]

  behind : (k : Guarded loose Before After at text) (g : ℕ) → at + 1 ≡ length (k.front ++ g ∷ [])
  behind k g = omega (arith, k.place, length-append k.front (g ∷ []))

module _ {E : Type 0} (loose : ℕ → Bool) (Before After : List ℕ → Type 0) (state new : DeviceState) (at : ℕ) (text : List ℕ) where
  body_images : (result : Result Unit E) → Kept loose Before After Body state at text → Writes (at + 1) text result state new → (c : List ℕ) → IsImage new c → Before c
  body_images result kept writes c image =
      let k = kept.stands.0 in
      let g = kept.stands.1 in
      write_over result loose state new (at + 1) text (k.front ++ g ∷ []) k.room k.back c Before k.blind_before (subst (RestsBut loose state) (at_body k.front k.room k.back g) kept.stands.3) writes (behind loose Before After at text k g) (sym k.fits)
      (λ left long. subst Before (at_body k.front left k.back g) (k.closed g kept.stands.2 left long)) image

  pub body_goes : (result : Result Unit E) → Kept loose Before After Body state at text → Writes (at + 1) text result state new → Kept loose Before After (stage_after Body result) new at text
  body_goes (Ok _) kept writes =
      let k = kept.stands.0 in
      let g = kept.stands.1 in
      let done : Result Unit E = Ok tt in
      record {
        images = body_images done kept writes;
        stands = (
          k,
          g,
          kept.stands.2,
          subst (RestsBut (or_within (at + 1) (length text) loose) new) (sym (at_body k.front text k.back g))
              (writes_rest loose state new (at + 1) text (k.front ++ g ∷ []) k.room k.back (subst (RestsBut loose state) (at_body k.front k.room k.back g) kept.stands.3) writes (behind loose Before After at text k g) (sym k.fits)),
        );
      }
  body_goes (Err e) kept writes = record { images = λ c image. inl (body_images (Err e) kept writes c image); stands = tt }

  gate_images : (result : Result Unit E) → Kept loose Before After Gate state at text → Writes at (165 ∷ []) result state new → (c : List ℕ) → IsImage new c → Before c ⊎ After c
  gate_images result kept writes c image =
      let k = kept.stands.0 in
      any_gate result loose state new at kept.stands.1 165 k.front text k.back (λ b. Before b ⊎ After b) (blind_either loose Before After at text k.blind_before k.blind_after) kept.stands.3 writes k.place (either loose Before After at text k) c image

  pub gate_goes : (result : Result Unit E) → Kept loose Before After Gate state at text → Writes at (165 ∷ []) result state new → Kept loose Before After (stage_after Gate result) new at text
  gate_goes (Ok _) kept writes =
      let k = kept.stands.0 in
      let done : Result Unit E = Ok tt in
      record { images = gate_images done kept writes; stands = (k, gate_rests loose state new at kept.stands.1 165 k.front text k.back kept.stands.3 writes k.place) }
  gate_goes (Err e) kept writes = record { images = gate_images (Err e) kept writes; stands = tt }

  pub body_sync_goes : (result : Result Unit E) → Kept loose Before After BodySync state at text → Syncs result state new → Kept loose Before After (stage_after BodySync result) new at text
  body_sync_goes (Ok _) kept syncs =
      let k = kept.stands.0 in
      let g = kept.stands.1 in
      let done : Result Unit E = Ok tt in
      record { images = λ c image. kept.images c (synced_image done state new c syncs image); stands = (k, g, kept.stands.2, syncs_rest (or_within (at + 1) (length text) loose) loose state new (with_gate k g text) kept.stands.3 syncs) }
  body_sync_goes (Err e) kept syncs = record { images = λ c image. inl (kept.images c (synced_image (Err e) state new c syncs image)); stands = tt }

  pub gate_sync_goes : (result : Result Unit E) → Kept loose Before After GateSync state at text → Syncs result state new → Kept loose Before After (stage_after GateSync result) new at text
  gate_sync_goes (Ok _) kept syncs =
      let k = kept.stands.0 in
      let rests : RestsBut loose new (with_gate k 165 text) = syncs_rest (or_within at 1 loose) loose state new (with_gate k 165 text) kept.stands.1 syncs in
      record { images = λ c image. resting loose new (with_gate k 165 text) c After k.blind_after rests (k.whole 165 k.written) image; stands = (with_gate k 165 text, k.whole 165 k.written, rests) }
  gate_sync_goes (Err e) kept syncs = record { images = λ c image. kept.images c (synced_image (Err e) state new c syncs image); stands = tt }

  -- the calls
  pub body_passes : (result : Result Unit E) → Writes (at + 1) text result state new → Kept loose Before After Body state at text → Passes loose Before After Body (stage_after Body result) state new at text
  body_passes result writes kept = record { kept = body_goes result kept writes; any_moment = λ c moment. ⊎_elim (kept.images c) (body_images result kept writes c) moment }

  pub gate_passes : (result : Result Unit E) → Writes at (165 ∷ []) result state new → Kept loose Before After Gate state at text → Passes loose Before After Gate (stage_after Gate result) state new at text
  gate_passes result writes kept = record { kept = gate_goes result kept writes; any_moment = λ c moment. ⊎_elim (λ image. inl (kept.images c image)) (gate_images result kept writes c) moment }

  pub body_sync_passes : (result : Result Unit E) → Syncs result state new → Kept loose Before After BodySync state at text → Passes loose Before After BodySync (stage_after BodySync result) state new at text
  body_sync_passes result syncs kept = record { kept = body_sync_goes result kept syncs; any_moment = λ c moment. ⊎_elim (kept.images c) (λ image. kept.images c (synced_image result state new c syncs image)) moment }

  pub gate_sync_passes : (result : Result Unit E) → Syncs result state new → Kept loose Before After GateSync state at text → Passes loose Before After GateSync (stage_after GateSync result) state new at text
  gate_sync_passes result syncs kept = record { kept = gate_sync_goes result kept syncs; any_moment = λ c moment. ⊎_elim (kept.images c) (λ image. kept.images c (synced_image result state new c syncs image)) moment }
