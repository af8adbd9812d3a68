-- What the answers of a flusher say of the batch that it holds.
use Rattle.std.proofs.Common.{◌≡◌, ◌≢◌, ◌<◌, ◌⊎◌, [], false, inl, inr, length, refl, subst, sym}
use Rattle.alm_types.specs.Batches.{Judged}
use Rattle.alm_model.specs.Judging.{accepted_of}
use Rattle.alm_store.specs.declared.phase.Phase.{Phase}
use Rattle.alm_store.specs.declared.phase.Phase.TheVariants.{Idle, Committing, Copying, Paused, Stopped}
use Rattle.alm_store.specs.Advancing.{IsCheckpointing}
use Rattle.alm_flush.specs.Advances.{IsSure}
use Rattle.alm_flush.specs.declared.held.Held.{Held}
use Rattle.alm_flush.specs.declared.held.Held.TheVariants.{Nothing, Fetched, Failed, Committed, Published}
use Rattle.alm_flush.specs.declared.advance.Advance.TheVariants as A
use Rattle.alm_flush.specs.declared.publishes.Publishes.TheVariants as P
use Rattle.alm_flush.specs.Flushes.{AdvanceAnswers, IsFree, PublishAnswers}
use Rattle.alm_flush.specs.HeldBatch.{to_commit, waiting_of}
use Rattle.alm_pipeline.specs.World.{World, IsHeld}
use Rattle.alm_pipeline.specs.Headline.{Sight, MayCall}
use Rattle.alm_flush.specs.Flushes.{IsGivenUp}
use Rattle.alm_pipeline.specs.Matches.{stage_of}

pub committed_batch : (p : Phase) (h h' : Held) → AdvanceAnswers A.Committed p h h' → (b : Judged) × (h ≡ Fetched b) × (h' ≡ Committed b)
committed_batch p Nothing h' is = absurd is
committed_batch p (Fetched b) h' is = (b, refl, is.0)
committed_batch p (Failed b) h' is = absurd is
committed_batch p (Committed b) h' is = absurd is
committed_batch p (Published b n) h' is = absurd is

-- a commit continues, and the batch stays; or a checkpoint continues
pub going_batch : (p : Phase) (h h' : Held) → AdvanceAnswers A.More p h h' → (h' ≡ h) × ((b : Judged) → h ≡ Fetched b → 0 < length (accepted_of b.entries))
going_batch p Nothing h' is = (is.0, λ b e. absurd cc)
going_batch p (Fetched b) h' is = (is.0, λ c e. subst (λ (x : Held). 0 < length (to_commit x)) e is.2)
going_batch p (Failed b) h' is = absurd is
going_batch p (Committed b) h' is = (is.0, λ c e. absurd cc)
going_batch p (Published b n) h' is = (is.0, λ c e. absurd cc)

-- a call that fails before a commit has failed permanently: of a batch with actions, or without a batch to commit
pub failed_batch : (p : Phase) (h h' : Held) → p ≢ Stopped → ¬ (IsGivenUp h) → AdvanceAnswers A.Failed p h h' → ((b : Judged) × (h ≡ Fetched b) × (h' ≡ Failed b) × (0 < length (accepted_of b.entries))) ⊎ (IsFree h × (h' ≡ h))
failed_batch p Nothing h' going trying is = inr (tt, is.0)
failed_batch p (Fetched b) h' going trying is = inl (b, refl, is.0, is.1 going)
failed_batch p (Failed b) h' going trying is = absurd (trying tt)
failed_batch p (Committed b) h' going trying is = inr (tt, is.0)
failed_batch p (Published b n) h' going trying is = inr (tt, is.0)

-- no batch is to be committed
pub no_batch : (p : Phase) (h h' : Held) → AdvanceAnswers A.Nothing p h h' → h' ≡ h
no_batch p Nothing h' is = is.0
no_batch p (Fetched b) h' is = absurd is
no_batch p (Failed b) h' is = absurd is
no_batch p (Committed b) h' is = is.0
no_batch p (Published b n) h' is = is.0

pub published_batch : (h h' : Held) → PublishAnswers P.Published h h' → (b : Judged) × (h ≡ Committed b) × (h' ≡ Published b 0)
published_batch Nothing h' is = absurd is
published_batch (Fetched b) h' is = absurd is
published_batch (Failed b) h' is = absurd is
published_batch (Committed b) h' is = (b, refl, is)
published_batch (Published b n) h' is = absurd is

pub not_yet : (h h' : Held) → PublishAnswers P.NotYet h h' → h' ≡ h
not_yet Nothing h' is = is
not_yet (Fetched b) h' is = is
not_yet (Failed b) h' is = is
not_yet (Committed b) h' is = absurd is
not_yet (Published b n) h' is = is

-- ---- if a device call is possible

pub open_else : (p : Phase) → p ≢ Idle → p ≢ Committing → p ≢ Stopped → IsCheckpointing p
open_else Idle not_idle not_committing going = absurd (not_idle refl)
open_else Committing not_idle not_committing going = absurd (not_committing refl)
open_else Copying not_idle not_committing going = tt
open_else Paused not_idle not_committing going = tt
open_else Stopped not_idle not_committing going = absurd (going refl)

-- a call returned More: a batch waits, or a checkpoint is open
pub goes_with : (p : Phase) (h h' : Held) → AdvanceAnswers A.More p h h' → IsHeld (stage_of h) ⊎ IsCheckpointing p
goes_with p Nothing h' is = inr is.1
goes_with p (Fetched b) h' is = inl tt
goes_with p (Failed b) h' is = absurd is
goes_with p (Committed b) h' is = inr is.1
goes_with p (Published b n) h' is = inr is.1

-- a call failed: the same
pub fails_with : (p : Phase) (h h' : Held) → p ≢ Stopped → (accepted_of (waiting_of h) ≡ [] → p ≢ Committing) → AdvanceAnswers A.Failed p h h' → IsHeld (stage_of h) ⊎ IsCheckpointing p
fails_with p Nothing h' going idle is = inr (open_else p is.1 (idle refl) going)
fails_with p (Fetched b) h' going idle is = inl tt
fails_with p (Failed b) h' going idle is = inl tt
fails_with p (Committed b) h' going idle is = inr (open_else p is.1 (idle refl) going)
fails_with p (Published b n) h' going idle is = inr (open_else p is.1 (idle refl) going)

pub may_call : (w : World) (d : Sight) (h : Held) (p : Phase) → w.closed ≡ false → stage_of h ≡ w.stage → p ≡ d.phase → IsHeld (stage_of h) ⊎ IsCheckpointing p → MayCall w d
may_call w d h p opened stage phase (inl held) = (opened, inl (subst IsHeld stage held))
may_call w d h p opened stage phase (inr open') = (opened, inr (subst IsCheckpointing phase open'))

-- no call was made: neither
none_waits : (p : Phase) (h h' : Held) → AdvanceAnswers A.Nothing p h h' → ¬ (IsHeld (stage_of h) ⊎ IsCheckpointing p)
none_waits p Nothing h' is (inl held) = held
none_waits p Nothing h' is (inr open') = subst IsCheckpointing is.1 open'
none_waits p (Fetched b) h' is either = is
none_waits p (Failed b) h' is either = is
none_waits p (Committed b) h' is (inl held) = held
none_waits p (Committed b) h' is (inr open') = subst IsCheckpointing is.1 open'
none_waits p (Published b n) h' is (inl held) = held
none_waits p (Published b n) h' is (inr open') = subst IsCheckpointing is.1 open'

pub may_not_call : (w : World) (d : Sight) (h h' : Held) (p : Phase) → stage_of h ≡ w.stage → p ≡ d.phase → AdvanceAnswers A.Nothing p h h' → ¬ (MayCall w d)
may_not_call w d h h' p stage phase is (opened, inl held) = none_waits p h h' is (inl (subst IsHeld (sym stage) held))
may_not_call w d h h' p stage phase is (opened, inr open') = none_waits p h h' is (inr (subst IsCheckpointing (sym phase) open'))

-- no checkpoint is to begin if work is under way
pub sure_working : (p : Phase) (takes : Type 0) → p ≢ Stopped → p ≢ Idle → IsSure p takes
sure_working Idle takes going working = absurd (working refl)
sure_working Committing takes going working = tt
sure_working Copying takes going working = tt
sure_working Paused takes going working = tt
sure_working Stopped takes going working = absurd (going refl)
