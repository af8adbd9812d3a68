-- What devices over a device say of a call beyond the model.
use Rattle.std.specs.Prelude.{◌≡◌, ◌≢◌, ◌-◌, ℕ, Bool, Option, Some, None, Result, IsErr, MatchBool}
use Rattle.alm_disk.specs.declared.call.Call.{Call}
use Rattle.alm_disk.specs.declared.call.Call.TheVariants.{Read, Write, Sync}

-- the calls that are left after one more; none if the fuse is out of use
abbrev pub one_less : Option ℕ → Option ℕ
one_less None = None
one_less (Some left) = Some (left - 1)

-- a fuse: if no call is left the device fails this one, else it serves it
pub record BurnsFuse {E : Type 0} (result : Result Unit E) (old new : Option ℕ) (served given_up : Type 0) : Type 0 where
  pub left : new ≡ one_less old
  pub blown : old ≡ Some 0 → IsErr result × given_up
  pub whole : old ≢ Some 0 → served

-- a single fault: the device fails the call whose turn it is, and serves any other
pub record FailsOnce {E : Type 0} (result : Result Unit E) (old new : ℕ) (served given_up : Type 0) : Type 0 where
  pub turn : new ≡ old - 1
  pub failed : old ≡ 1 → IsErr result × given_up
  pub passed : old ≢ 1 → served

-- a hold is asked before each sync, and the device serves those that it lets begin; it serves every other call
abbrev pub IsServedBehind : {E : Type 0} → Call → Result Unit E → (Bool → Type 0) → (served untouched : Type 0) → Type 0
IsServedBehind (Read at n) result answers served untouched = served
IsServedBehind (Write at n) result answers served untouched = served
IsServedBehind Sync result answers served untouched = (begins : Bool) × answers begins × MatchBool begins served (IsErr result × untouched)
