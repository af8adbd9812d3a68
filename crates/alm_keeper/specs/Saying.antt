-- What a device says of who asked, whatever a crash leaves of it.
use Rattle.std.specs.Prelude.{◌≡◌, ℕ, List, ◌++◌}
use Rattle.alm_codec.specs.declared.asked.Asked.{Asked}
use Rattle.alm_keeper.specs.Keeper.{KeeperView}
use Rattle.alm_keeper.specs.Stages.{During}
use Rattle.alm_keeper.specs.Trail.{IsEnd, Says}
use Rattle.alm_keeper.specs.declared.stage.Work.{Work}
use Rattle.alm_keeper.specs.declared.stage.Work.TheVariants.{Commit, Checkpoint}

-- what it says after a commit: the commit's actions come last. After a checkpoint: those since its image alone
abbrev pub AddsTo : Work → (before asked after : List Asked) → Type 0
AddsTo Commit before asked after = after ≡ before ++ asked
AddsTo Checkpoint before asked after = IsEnd after before

-- at any moment of the call that is next each device that is left says one list; from the gate's write on that one, or the list
-- after the work
pub record MaySay {D : Type 0} (k : KeeperView D) (left : List ℕ → Type 0) : Type 0 where
  pub before : List Asked
  pub after : List Asked
  pub adds : AddsTo k.work before k.asked after
  pub says : (bytes : List ℕ) → left bytes → During (Says before) (Says after) k.stage bytes

-- each device that is left says the same list
pub record SaysOne (left : List ℕ → Type 0) : Type 0 where
  pub asked : List Asked
  pub says : (bytes : List ℕ) → left bytes → Says asked bytes
