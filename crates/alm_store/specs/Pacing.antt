-- What the calls of a store make of an open checkpoint and of the use of its segment.
use Rattle.std.specs.Prelude.{◌≡◌, ◌≢◌, ◌⊎◌, ℕ, ◌+◌, ◌*◌, ◌≤◌, Option, Some, None}
use Rattle.alm_store.specs.Pace.{Going, IsInPace, longest, most, open_len}
use Rattle.alm_store.specs.State.{StoreState}
use Rattle.alm_store.specs.declared.phase.Phase.{Phase}
use Rattle.alm_store.specs.declared.phase.Phase.TheVariants.{Committing, Paused}
use Rattle.alm_store.specs.declared.progress.Progress.{Progress}
use Rattle.alm_store.specs.declared.progress.Progress.TheVariants.{More, Done, Failed}

-- a store keeps its pace
abbrev pub KeepsPace : StoreState → Type 0
KeepsPace s = IsInPace s.segment s.phase s.used s.written s.going

-- the half that stands has room for the longest frame
abbrev pub TakesAny : StoreState → Type 0
TakesAny s = s.used + longest + 1 ≤ s.segment

-- the use and the length of the segment stay, and the open checkpoint
abbrev pub SamePace : (old new : StoreState) → Type 0
SamePace old new = (new.used ≡ old.used) × (new.segment ≡ old.segment) × (new.going ≡ old.going)

-- a checkpoint is open that was copied after all frames
abbrev pub IsJustOpened : Option Going → Type 0
IsJustOpened None = ⊥
IsJustOpened (Some g) = g.since ≡ 0

-- a commit is done: its frame goes out with an open checkpoint, whose pieces up to then were whole ones
abbrev pub Grows : (o o' : Option Going) → Type 0
Grows None o' = o' ≡ None
Grows (Some g) None = ⊥
Grows (Some g) (Some h) = (g.since ≤ h.since) × (h.since ≤ g.since + longest) × (h.pieces ≡ g.pieces) × (most * g.pieces ≤ open_len g)

-- a piece went out
abbrev pub SendsOnePiece : (o o' : Option Going) → Type 0
SendsOnePiece None o' = ⊥
SendsOnePiece (Some g) None = ⊥
SendsOnePiece (Some g) (Some h) = (h.since ≡ g.since) × (g.pieces + 1 ≤ h.pieces)

-- the checkpoint is done: no more than the frames in it is used
abbrev pub EndsCopy : (o o' : Option Going) → (u' : ℕ) → Type 0
EndsCopy None o' u' = ⊥
EndsCopy (Some g) o' u' = (u' ≤ g.since) × (o' ≡ None)

-- what a device call makes of the use, of the bytes that are counted, and of the open checkpoint, which were u and o
abbrev pub PaceAfter : Progress → Phase → (u used written : ℕ) → (o going : Option Going) → Type 0
PaceAfter Failed phase u used written o going = Unit {0}
PaceAfter More Paused u used written o going = (used ≡ u) × SendsOnePiece o going
PaceAfter More phase u used written o going = (used ≡ u) × (going ≡ o)
PaceAfter Done Committing u used written o going = (used ≤ u + longest) × (written ≡ 0) × Grows o going
PaceAfter Done phase u used written o going = EndsCopy o going used

-- a device call: a piece has at most 65,536 bytes, no other bytes are counted, and only a commit that is done resets the count
pub record Goes (result : Progress) (old new : StoreState) : Type 0 where
  pub segment : new.segment ≡ old.segment
  pub written : new.written ≤ old.written + most
  pub unwritten : old.phase ≢ Paused → new.written ≤ old.written
  pub counted : (old.phase ≢ Committing) ⊎ (result ≢ Done) → old.written ≤ most → old.written ≤ new.written
  pub pace : PaceAfter result old.phase old.used new.used new.written old.going new.going
