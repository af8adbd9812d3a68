-- The nodes of the slots of some moments in a row.
use Rattle.std.proofs.Common.{◌≡◌, ℕ, ◌+◌, ◌-◌, ◌%◌, ◌<◌, ◌≤◌, ◌≢◌, Option, Some, None, List, ◌++◌, length, suc, zero, min, refl, sym, ◌∙◌, arith, inl, inr, length-append}
use Rattle.std.specs.Prelude.{option_map}
use Rattle.std.specs.List.{AllByRecursion}
use Rattle.std.proofs.lemmas.Bool.{cases_eq, cases_lt}
use Rattle.alm_lists.specs.Lists.{times}
use Rattle.alm_lists.proofs.Each.{all-append}
use Rattle.alm_lists.proofs.Times.{times-append, times-past, length-le_from_times}
use Rattle.alm_links.specs.Lists.{Lists, nodes_of, once}
use Rattle.alm_links.proofs.Rings.{once_same, once_other, once_few}
use Rattle.alm_wheel.specs.Deadlines.{slot_of, deadline_of}
use Rattle.alm_wheel.specs.Wheels.{IsWheel, nodes_behind}

-- how often the slot of one of n moments is named
abbrev pub met : Option ℕ → ℕ → ℕ → ℕ
met o from zero = 0
met o from (suc n) = met o from n + once o (slot_of (from + 1 + n))

met_none : (from n : ℕ) → met None from n ≡ 0
met_none from zero = refl
met_none from (suc n) = omega (arith, met_none from n)

-- a slot is met once in 256 moments in a row
met_elsewhere : (s from n : ℕ) → ((k : ℕ) → k < n → slot_of (from + 1 + k) ≢ s) → met (Some s) from n ≡ 0
met_elsewhere s from zero other = refl
met_elsewhere s from (suc n) other =
    let rest = met_elsewhere s from n (λ k h. other k (omega arith)) in
    omega (arith, rest, once_other s (slot_of (from + 1 + n)) (λ e. other n (omega arith) (sym e)))

met_few : (s from n : ℕ) → n ≤ 256 → met (Some s) from n ≤ 1
met_few s from zero h = omega arith
met_few s from (suc n) h = elim (cases_eq (slot_of (from + 1 + n)) s) [
  | inl e ↦
      let before = met_elsewhere s from n (λ k j d. omega arith) in
      omega (arith, before, once_few (Some s) (slot_of (from + 1 + n)))
  | inr e ↦ omega (arith, met_few s from n (omega arith), once_other s (slot_of (from + 1 + n)) (λ d. e (sym d)))
]

met_at : (s from n k : ℕ) → k < n → slot_of (from + 1 + k) ≡ s → 1 ≤ met (Some s) from n
met_at s from zero k h e = absurd (omega arith)
met_at s from (suc n) k h e = elim (cases_eq k n) [
  | inl q ↦ let here : once (Some s) (slot_of (from + 1 + n)) ≡ 1 = rw (← q, e) (once_same s) in omega arith
  | inr q ↦ omega (arith, met_at s from n k (omega arith) e)
]

-- the slot of a moment between two is met
pub met_between : (from to d : ℕ) → from < d → d ≤ to → met (Some (slot_of d)) from (min (to - from) 256) ≡ 1
met_between from to d h k =
    let turn = (d - from - 1) % 256 in
    let here : turn < min (to - from) 256 = omega arith in
    let same : slot_of (from + 1 + turn) ≡ slot_of d = omega arith in
    omega (arith, met_at (slot_of d) from (min (to - from) 256) turn here same, met_few (slot_of d) from (min (to - from) 256) (omega arith))

met_once : (o : Option ℕ) (from n : ℕ) → n ≤ 256 → met o from n ≤ 1
met_once None from n h = omega (arith, met_none from n)
met_once (Some s) from n h = met_few s from n h

-- how often a node is in those slots
pub times-nodes_behind : (deadlines : List (Option ℕ)) (f : Lists) (i from n : ℕ) → IsWheel deadlines f → i < length deadlines
    → times i (nodes_behind f.lists from n) ≡ met (option_map slot_of (deadline_of deadlines i)) from n
times-nodes_behind deadlines f i from zero w h = refl
times-nodes_behind deadlines f i from (suc n) w h =
    let rest = times-nodes_behind deadlines f i from n w h in
    let last = w.filed i (slot_of (from + 1 + n)) h (omega arith) in
    times-append i (nodes_behind f.lists from n) (nodes_of f.lists (slot_of (from + 1 + n))) ∙ omega (arith, rest, last)

pub small-nodes_behind : (deadlines : List (Option ℕ)) (f : Lists) (from n : ℕ) → IsWheel deadlines f → AllByRecursion (λ i. i < length deadlines) (nodes_behind f.lists from n)
small-nodes_behind deadlines f from zero w = tt
small-nodes_behind deadlines f from (suc n) w =
    all-append (λ i. i < length deadlines) (nodes_behind f.lists from n) (nodes_of f.lists (slot_of (from + 1 + n))) (small-nodes_behind deadlines f from n w) (w.small (slot_of (from + 1 + n)) (omega arith))

pub few-nodes_behind : (deadlines : List (Option ℕ)) (f : Lists) (from n : ℕ) → IsWheel deadlines f → n ≤ 256 → (i : ℕ) → times i (nodes_behind f.lists from n) ≤ 1
few-nodes_behind deadlines f from n w h i = elim (cases_lt i (length deadlines)) [
  | inl k ↦ omega (arith, times-nodes_behind deadlines f i from n w k, met_once (option_map slot_of (deadline_of deadlines i)) from n h)
  | inr k ↦ omega (arith, times-past (length deadlines) i (nodes_behind f.lists from n) k (small-nodes_behind deadlines f from n w))
]

-- so they are no more than there are nodes
pub length-nodes_behind : (deadlines : List (Option ℕ)) (f : Lists) (from n : ℕ) → IsWheel deadlines f → n ≤ 256 → length (nodes_behind f.lists from n) ≤ length deadlines
length-nodes_behind deadlines f from n w h =
    length-le_from_times (length deadlines) (nodes_behind f.lists from n) (small-nodes_behind deadlines f from n w) (few-nodes_behind deadlines f from n w h)

pub room_behind : (deadlines : List (Option ℕ)) (f : Lists) (from n slot : ℕ) (out : List ℕ) → IsWheel deadlines f → n < 256 → slot ≡ slot_of (from + 1 + n) → out ≡ nodes_behind f.lists from n
    → length out + length (nodes_of f.lists slot) ≤ length deadlines
room_behind deadlines f from n slot out w h e o =
    let all : length (nodes_behind f.lists from n ++ nodes_of f.lists (slot_of (from + 1 + n))) ≤ length deadlines = length-nodes_behind deadlines f from (suc n) w (omega arith) in
    rw (e, o) (omega (arith, all, length-append (nodes_behind f.lists from n) (nodes_of f.lists (slot_of (from + 1 + n)))))
