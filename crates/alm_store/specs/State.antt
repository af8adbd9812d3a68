-- The state of a store at a moment, without its device.
use Rattle.std.specs.Prelude.{ℕ, Option}
use Rattle.alm_model.specs.Plant.{Condensed}
use Rattle.alm_store.specs.Pace.{Going}
use Rattle.alm_store.specs.declared.phase.Phase.{Phase}

pub record StoreState : Type 0 where
  -- what is under way, and at most how many device calls are left of it
  pub phase : Phase
  pub left : ℕ
  -- the plant that is stored, and the one after what is under way
  pub stored : Condensed
  pub next : Condensed
  -- how long the segment is, and the place of its first closed gate
  pub segment : ℕ
  pub used : ℕ
  -- the checkpoint that is open, and how many bytes of one went out since the last commit's end or mark
  pub going : Option Going
  pub written : ℕ
