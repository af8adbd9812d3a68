-- Which slots are woken after a batch is answered, and which with the next one.
use Rattle.std.specs.Prelude.{◌+◌, ◌-◌, ◌^◌, ◌&&◌, ◌||◌, Bool, ℕ, List, false, not, min, nat_le, nat_lt, replicate, slice_index, slice_index_or, slice_set}
use Rattle.alm_wake.specs.declared.waking.Waking.{Waking}
use Rattle.alm_types.specs.Sizes.{slot_count}

-- none of the slots, and no reply of theirs
abbrev pub no_one : List Bool
no_one = replicate slot_count false

abbrev pub no_reply : List ℕ
no_reply = replicate slot_count 0

-- one reply more of a slot
abbrev pub with_reply : List ℕ → ℕ → List ℕ
with_reply replies s = slice_set replies s (min (slice_index replies s + 1) (2 ^ 16 - 1))

-- the slot was left asleep by the batch before
abbrev pub is_late : Waking → ℕ → Bool
is_late w s = slice_index_or w.late s false

-- the slot has a reply for which it wasn't woken
abbrev pub is_owed : Waking → ℕ → Bool
is_owed w s = nat_lt 0 (slice_index w.replies s) || is_late w s

-- the slot may sleep until the next batch is answered: two wait, it has eight replies of this batch, and slept through none
abbrev pub may_sleep : Waking → ℕ → Bool
may_sleep w s = nat_le 2 w.waiting && nat_le 8 (slice_index w.replies s) && not (is_late w s)
