-- The slots that a wheel holds, and what is true of them.
use Rattle.std.specs.Prelude.{ℕ, ◌+◌, ◌<◌, ◌≡◌, List, [], ◌++◌, Option, option_map, length, suc, zero}
use Rattle.std.specs.List.{AllByRecursion}
use Rattle.alm_lists.specs.Lists.{times}
use Rattle.alm_links.specs.Lists.{Lists, nodes_of, once}
use Rattle.alm_wheel.specs.Deadlines.{Schedule, wheel_size, slot_of, deadline_of}
use Rattle.alm_wheel.specs.declared.wheel.Wheel.TheInside.{Inside}

-- each node with a deadline is once in its slot, and no other node is in a slot
pub record IsWheel (deadlines : List (Option ℕ)) (slots : Lists) : Type 0 where
  pub nodes : slots.nodes ≡ length deadlines
  pub count : length slots.lists ≡ wheel_size
  pub small : (l : ℕ) → l < wheel_size → AllByRecursion (λ i. i < length deadlines) (nodes_of slots.lists l)
  pub filed : (i l : ℕ) → i < length deadlines → l < wheel_size → times i (nodes_of slots.lists l) ≡ once (option_map slot_of (deadline_of deadlines i)) l

abbrev pub schedule_of : Inside → Schedule
schedule_of w = record { deadlines = w.deadlines.items; slots = w.slots.lists }

abbrev pub IsSoundWheel : Inside → Type 0
IsSoundWheel w = IsWheel w.deadlines.items w.slots

-- the nodes of the slots of a number of moments after one
abbrev pub nodes_behind : List (List ℕ) → ℕ → ℕ → List ℕ
nodes_behind slots from zero = []
nodes_behind slots from (suc n) = nodes_behind slots from n ++ nodes_of slots (slot_of (from + 1 + n))
