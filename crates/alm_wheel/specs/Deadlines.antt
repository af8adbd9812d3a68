-- Deadlines of nodes, and the slots that the nodes are in.
use Rattle.std.specs.Prelude.{ℕ, ◌%◌, List, Bool, false, ◌&&◌, Option, Some, None, unwrap_or, nat_lt, nat_le, slice_index_or}

-- for each node its deadline, and for each slot its nodes
pub record Schedule : Type 0 where
  pub deadlines : List (Option ℕ)
  pub slots : List (List ℕ)

-- how many slots a wheel has
abbrev pub wheel_size : ℕ
wheel_size = 256

-- the slot of a deadline
abbrev pub slot_of : ℕ → ℕ
slot_of deadline = deadline % wheel_size

-- the deadline of a node, if it has one
abbrev pub deadline_of : List (Option ℕ) → ℕ → Option ℕ
deadline_of deadlines node = slice_index_or deadlines node None

-- whether a deadline is after one moment, and at another or before it
abbrev pub is_between : ℕ → ℕ → Option ℕ → Bool
is_between from to None = false
is_between from to (Some deadline) = nat_lt from deadline && nat_le deadline to

-- whether a node has such a deadline
abbrev pub is_deadline_due : ℕ → ℕ → List (Option ℕ) → ℕ → Bool
is_deadline_due from to deadlines node = is_between from to (deadline_of deadlines node)

-- the deadline of a node as a number to sort by, 0 if it has none
abbrev pub deadline_key : List (Option ℕ) → ℕ → ℕ
deadline_key deadlines node = unwrap_or (deadline_of deadlines node) 0
