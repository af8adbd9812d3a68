-- What a step of a commit makes of the stored plant.
use Rattle.std.specs.Prelude.{◌≡◌, ◌≢◌, ◌<◌, ◌≤◌, ◌+◌, ◌⊎◌, ℕ, List, length}
use Rattle.alm_types.specs.declared.action.Action.{Action}
use Rattle.alm_types.specs.Batches.{Judged}
use Rattle.alm_model.specs.Plant.{Condensed}
use Rattle.alm_model.specs.Judging.{accepted_of}
use Rattle.alm_model.specs.Rules.{AllAdmitted}
use Rattle.alm_store.specs.State.{StoreState}
use Rattle.alm_model.specs.Step.{run}
use Rattle.alm_store.specs.declared.phase.Phase.{Phase}
use Rattle.alm_store.specs.declared.phase.Phase.TheVariants.{Idle, Committing, Copying, Paused, Stopped}
use Rattle.alm_store.specs.Advancing.{IsCheckpointing}
use Rattle.alm_flush.specs.declared.advance.Advance.{Advance}
use Rattle.alm_flush.specs.declared.advance.Advance.TheVariants.{More, Committed, Failed, Nothing}
use Rattle.alm_types.specs.Sizes.{most_entries}

-- the phase before and then, the stored plants before and then, the batch's actions
abbrev pub Advances : Advance → (p p' : Phase) → (s s' : Condensed) → List Action → Type 0
Advances More p p' s s' actions = (p ≢ Stopped) × (s' ≡ s) × (0 < length actions)
Advances Committed p p' s s' actions = (p ≢ Stopped) × (s' ≡ run s actions) × (p' ≢ Committing)
Advances Failed p p' s s' actions = (p ≢ Stopped → 0 < length actions) × (s' ≡ s)
Advances Nothing p p' s s' actions = ⊥

-- the commit of `actions` actions is done in at most m steps. They depend on the store's phase, on how many calls are left of its
-- work, and on whether its next frame takes them, now or after that work is done. A commit is 4 calls, a checkpoint 320 at most;
-- if one is open, a second one may have to make the room
abbrev pub Within : (m : ℕ) → Phase → (left : ℕ) → (takes will_take : Type 0) → (actions : ℕ) → Type 0
Within m Idle left takes will_take actions = (takes × (5 ≤ m)) ⊎ ((actions ≤ most_entries) × (326 ≤ m))
Within m Committing left takes will_take actions = left < m
Within m Copying left takes will_take actions = (will_take × (left + 6 ≤ m)) ⊎ ((actions ≤ most_entries) × (left + 327 ≤ m))
Within m Paused left takes will_take actions = (will_take × (left + 6 ≤ m)) ⊎ ((actions ≤ most_entries) × (left + 327 ≤ m))
Within m Stopped left takes will_take actions = ⊥

-- .. in at most m steps after the device call that is next
abbrev pub Behind : (m : ℕ) → Phase → (left : ℕ) → (will_take : Type 0) → (actions : ℕ) → Type 0
Behind m Committing left will_take actions = left ≤ m
Behind m Copying left will_take actions = (will_take × (left + 5 ≤ m)) ⊎ ((actions ≤ most_entries) × (left + 326 ≤ m))
Behind m Paused left will_take actions = (will_take × (left + 5 ≤ m)) ⊎ ((actions ≤ most_entries) × (left + 326 ≤ m))
Behind m phase left will_take actions = ⊥

-- the batch is the next one, and its actions are admitted
abbrev pub IsNextOne : Judged → StoreState → Type 0
IsNextOne b s = (b.first ≡ s.stored.panel.count + 1) × AllAdmitted s.stored (accepted_of b.entries)

-- no checkpoint is to be begun: work is under way, or the next frame takes the actions
abbrev pub IsSure : Phase → (takes : Type 0) → Type 0
IsSure Idle takes = takes
IsSure Stopped takes = ⊥
IsSure phase takes = Unit {0}

-- without a batch to commit: the phase before and then
abbrev pub GoesOn : Advance → (p p' : Phase) → Type 0
GoesOn More p p' = IsCheckpointing p × (p' ≢ Stopped)
GoesOn Failed p p' = (p ≢ Idle) × (p' ≡ Stopped)
GoesOn Nothing p p' = (p ≡ Idle) × (p' ≡ p)
GoesOn Committed p p' = ⊥
