-- How the calls of a store keep its pace.
use Rattle.std.proofs.Common.{◌≡◌, ◌≢◌, inl, inr, ⊎_elim, ℕ, ◌+◌, ◌*◌, ◌<◌, ◌≤◌, List, [], ◌∷◌, length, Option, Some, None, IsSome, refl, sym, ◌∙◌, subst, arith, length-append}
use Rattle.alm_types.specs.declared.entry.Entry.{Entry}
use Rattle.alm_types.specs.declared.verdict.Verdict.{Verdict}
use Rattle.alm_types.specs.declared.verdict.Verdict.TheVariants.{Accepted, Refused}
use Rattle.alm_model.specs.Judging.{accepted_of, when_accepted}
use Rattle.alm_store.specs.Pace.{Going, Paced, IsPieceAhead, IsInPace, longest}
use Rattle.alm_store.specs.declared.phase.Phase.{Phase}
use Rattle.alm_store.specs.declared.phase.Phase.TheVariants.{Idle, Committing, Copying, Paused, Stopped}
use Rattle.alm_store.specs.declared.progress.Progress.{Progress}
use Rattle.alm_store.specs.declared.progress.Progress.TheVariants.{More, Done, Failed}
use Rattle.alm_store.specs.Advancing.{IsCheckpointing}
use Rattle.alm_store.specs.Pacing.{IsJustOpened, Grows, SendsOnePiece, EndsCopy, PaceAfter}
use Rattle.alm_flush.specs.Pacing.{IsNearPace}

-- no more are accepted than there are
one_at_most : (v : Verdict) → length (when_accepted v) ≤ 1
one_at_most (Accepted a) = omega arith
one_at_most (Refused r n) = omega arith

pub accepted_few : (entries : List Entry) → length (accepted_of entries) ≤ length entries
accepted_few [] = omega arith
accepted_few (e ∷ entries) = omega (arith, length-append (when_accepted e.verdict) (accepted_of entries), one_at_most e.verdict, accepted_few entries)

-- ---- beginnings

-- what is ahead in one phase is so in another one
paced_as : (segment used : ℕ) (ahead ahead' : Type 0) (g : Going) → (ahead' → ahead) → Paced segment used ahead g → Paced segment used ahead' g
paced_as segment used ahead ahead' g to p = record { commits = p.commits; half = p.half; frames = p.frames; sent = p.sent; next = λ a. p.next (to a); whole = p.whole }

-- a phase in which no more is ahead
pub keeps_as : (segment : ℕ) (p p' : Phase) (used w w' : ℕ) (o : Option Going) → (IsSome o → IsPieceAhead p' w' → IsPieceAhead p w) → IsInPace segment p used w o → IsInPace segment p' used w' o
keeps_as segment p p' used w w' None to keeps = keeps
keeps_as segment p p' used w w' (Some g) to keeps = paced_as segment used (IsPieceAhead p w) (IsPieceAhead p' w') g (to refl) keeps

-- use, length and open checkpoint stay
abbrev IsSame : (u u' l l' : ℕ) → (o o' : Option Going) → Type 0
IsSame u u' l l' o o' = (u' ≡ u) × (l' ≡ l) × (o' ≡ o)

module _ (u u' l l' : ℕ) (o o' : Option Going) (same : IsSame u u' l l' o o') where
  pub keeps_same : (p p' : Phase) (w w' : ℕ) → (IsSome o → IsPieceAhead p' w' → IsPieceAhead p w) → IsInPace l p u w o → IsInPace l' p' u' w' o'
  keeps_same p p' w w' to keeps =
      let k = keeps_as l p p' u w w' o to keeps in
      subst (λ (x : ℕ). IsInPace l' p' x w' o') (sym same.0) (subst (λ (x : ℕ). IsInPace x p' u w' o') (sym same.1) (subst (λ (x : Option Going). IsInPace l p' u w' x) (sym same.2) k))

none_some : (o : Option Going) → o ≡ None → IsSome o → ⊥
none_some None e is = absurd cc
none_some (Some g) e is = absurd cc

-- a commit that begins: no checkpoint is open, or a piece went out
pub begins_alone : (u u' l l' : ℕ) (o o' : Option Going) (p p' : Phase) (w w' : ℕ) → IsSame u u' l l' o o' → o ≡ None → IsInPace l p u w o → IsInPace l' p' u' w' o'
begins_alone u u' l l' o o' p p' w w' same none keeps = keeps_same u u' l l' o o' same p p' w w' (λ is. absurd (none_some o none is)) keeps

pub begins_between : (u u' l l' : ℕ) (o o' : Option Going) (p p' : Phase) (w w' : ℕ) → IsSame u u' l l' o o' → 0 < w → IsInPace l p u w o → IsInPace l' p' u' w' o'
begins_between u u' l l' o o' p p' w w' same some keeps = keeps_same u u' l l' o o' same p p' w w' (λ _ _. inr (omega (arith, some))) keeps

-- ---- device calls

-- a commit's call that isn't the last
stays : (l u u' w w' : ℕ) (p p' : Phase) (o o' : Option Going) → (u' ≡ u) × (o' ≡ o) → (IsPieceAhead p' w' → IsPieceAhead p w) → IsInPace l p u w o → IsInPace l p' u' w' o'
stays l u u' w w' p p' o o' goes to keeps = keeps_same u u' l l o o' (goes.0, refl, goes.1) p p' w w' (λ _. to) keeps

-- a commit's end opens no checkpoint
pub stays_alone : (phase : Phase) (u u' w' : ℕ) (o o' : Option Going) → phase ≡ Committing → o ≡ None → PaceAfter Done phase u u' w' o o' → o' ≡ None
stays_alone Committing u u' w' None o' is none goes = goes.2
stays_alone Committing u u' w' (Some g) o' is none goes = absurd cc
stays_alone Idle u u' w' o o' is none goes = absurd cc
stays_alone Copying u u' w' o o' is none goes = absurd cc
stays_alone Paused u u' w' o o' is none goes = absurd cc
stays_alone Stopped u u' w' o o' is none goes = absurd cc

-- a piece
sends : (l u u' w w' : ℕ) (p p' : Phase) (o o' : Option Going) → p' ≢ Committing → u' ≡ u → SendsOnePiece o o' → IsInPace l p u w o → IsInPace l p' u' w' o'
sends l u u' w w' p p' None o' other same goes keeps = absurd goes
sends l u u' w w' p p' (Some g) None other same goes keeps = absurd goes
sends l u u' w w' p p' (Some g) (Some h) other same goes keeps = record {
  commits = keeps.commits;
  half = omega (arith, same, keeps.half);
  frames = omega (arith, goes.0, keeps.frames);
  sent = omega (arith, goes.1, keeps.sent);
  next = λ a. omega (arith, goes.1, keeps.sent);
  whole = omega (arith, goes.0, keeps.whole);
}

-- a checkpoint's end
turns : (l u u' w w' : ℕ) (p p' : Phase) (o o' : Option Going) → 452651 ≤ l → EndsCopy o o' u' → IsInPace l p u w o → IsInPace l p' u' w' o'
turns l u u' w w' p p' None o' long goes keeps = absurd goes
turns l u u' w w' p p' (Some g) o' long goes keeps =
    subst (IsInPace l p' u' w') (sym goes.1) (omega (arith, long, goes.0, keeps.frames, keeps.whole))

-- a commit's end
commits : (l u u' w w' : ℕ) (p p' : Phase) (o o' : Option Going) → p ≡ Committing → p' ≢ Committing → u' ≤ u + longest → w' ≡ 0 → Grows o o' → IsInPace l p u w o → IsNearPace l p' u' w' o'
commits l u u' w w' p p' None o' is other more none goes keeps = subst (IsNearPace l p' u' w') (sym goes) (inr (none, omega (arith, more, keeps)))
commits l u u' w w' p p' (Some g) None is other more none goes keeps = absurd goes
commits l u u' w w' p p' (Some g) (Some h) is other more none goes keeps =
    let ahead = keeps.next (inl is) in record {
      commits = keeps.commits + 1;
      half = omega (arith, more, keeps.half);
      frames = omega (arith, goes.1, keeps.frames);
      sent = omega (arith, goes.2, ahead);
      next = λ a. absurd (⊎_elim other (λ x. omega (arith, x, none)) a);
      whole = omega (arith, goes.0, goes.3, ahead);
    }

-- a call of a work that continues
pub goes_on : (result : Progress) (l l' u u' w w' : ℕ) (p p' : Phase) (o o' : Option Going) → 452651 ≤ l → l' ≡ l → result ≢ Failed → (result ≡ Done → IsCheckpointing p) → (p' ≡ Committing → p ≡ Committing) → (p ≢ Paused → w' ≤ w)
    → PaceAfter result p u u' w' o o' → IsInPace l p u w o → IsInPace l' p' u' w' o'
goes_on result l l' u u' w w' p p' o o' long same not done to less goes keeps = subst (λ (x : ℕ). IsInPace x p' u' w' o') (sym same) (by_case result p not done to less goes keeps)
  where
    ahead : (p : Phase) → (p' ≡ Committing → p ≡ Committing) → w' ≤ w → IsPieceAhead p' w' → IsPieceAhead p w
    ahead p to less a = ⊎_elim (λ e. inl (to e)) (λ x. inr (omega (arith, x, less))) a

    by_case : (result : Progress) (p : Phase) → result ≢ Failed → (result ≡ Done → IsCheckpointing p) → (p' ≡ Committing → p ≡ Committing) → (p ≢ Paused → w' ≤ w) → PaceAfter result p u u' w' o o' → IsInPace l p u w o → IsInPace l p' u' w' o'
    by_case Failed p not done to less goes keeps = absurd (not refl)
    by_case More Paused not done to less goes keeps = sends l u u' w w' Paused p' o o' (λ e. absurd (cc (to e))) goes.0 goes.1 keeps
    by_case More Idle not done to less goes keeps = stays l u u' w w' Idle p' o o' goes (ahead Idle to (less (λ e. absurd cc))) keeps
    by_case More Committing not done to less goes keeps = stays l u u' w w' Committing p' o o' goes (ahead Committing to (less (λ e. absurd cc))) keeps
    by_case More Copying not done to less goes keeps = stays l u u' w w' Copying p' o o' goes (ahead Copying to (less (λ e. absurd cc))) keeps
    by_case More Stopped not done to less goes keeps = stays l u u' w w' Stopped p' o o' goes (ahead Stopped to (less (λ e. absurd cc))) keeps
    by_case Done Idle not done to less goes keeps = absurd (done refl)
    by_case Done Committing not done to less goes keeps = absurd (done refl)
    by_case Done Copying not done to less goes keeps = turns l u u' w w' Copying p' o o' long goes keeps
    by_case Done Paused not done to less goes keeps = turns l u u' w w' Paused p' o o' long goes keeps
    by_case Done Stopped not done to less goes keeps = absurd (done refl)

-- the last call of a commit
pub commit_ends : (l l' u u' w w' : ℕ) (p p' : Phase) (o o' : Option Going) → l' ≡ l → p ≡ Committing → p' ≢ Committing → PaceAfter Done p u u' w' o o' → IsInPace l p u w o → IsNearPace l' p' u' w' o'
commit_ends l l' u u' w w' p p' o o' same is other goes keeps =
    let here : PaceAfter Done Committing u u' w' o o' = subst (λ (x : Phase). PaceAfter Done x u u' w' o o') is goes in
    subst (λ (x : ℕ). IsNearPace x p' u' w' o') (sym same) (commits l u u' w w' p p' o o' is other here.0 here.1 here.2 keeps)

-- ---- after a commit

-- without one
pub near : (l u w : ℕ) (p : Phase) (o : Option Going) → IsInPace l p u w o → IsNearPace l p u w o
near l u w p None keeps = inl keeps
near l u w p (Some g) keeps = keeps

-- an open checkpoint continues
pub keeps_open : (l u w : ℕ) (p : Phase) (o : Option Going) → IsSome o → IsNearPace l p u w o → IsInPace l p u w o
keeps_open l u w p None is near = absurd cc
keeps_open l u w p (Some g) is near = near

-- none is needed
pub keeps_half : (l u w : ℕ) (p : Phase) (o : Option Going) → o ≡ None → 2 * u ≤ l → IsInPace l p u w o
keeps_half l u w p o none half = subst (IsInPace l p u w) (sym none) half

-- one is opened
fresh_paced : (l u u' w w' : ℕ) (p p' : Phase) (o' : Option Going) → (written : w' ≡ 0) → u' ≡ u → 2 * u ≤ l + 2 * longest → p' ≢ Committing → IsJustOpened o' → IsInPace l p' u' w' o'
fresh_paced l u u' w w' p p' None none same used other fresh = absurd fresh
fresh_paced l u u' w w' p p' (Some g) none same used other fresh = record {
  commits = 0;
  half = omega (arith, same, used);
  frames = omega (arith, fresh);
  sent = omega arith;
  next = λ a. absurd (⊎_elim other (λ x. omega (arith, x, none)) a);
  whole = omega arith;
}

pub opens : (l l' u u' w w' : ℕ) (p p' : Phase) (o o' : Option Going) → o ≡ None → l < 2 * u → l' ≡ l → u' ≡ u → w' ≡ w → p' ≢ Committing → IsJustOpened o' → IsNearPace l p u w o → IsInPace l' p' u' w' o'
opens l l' u u' w w' p p' o o' none half long used written other fresh near =
    subst (λ (x : ℕ). IsInPace x p' u' w' o') (sym long)
    (⊎_elim
    (λ few. absurd (omega (arith, half, few)))
    (λ x. fresh_paced l u u' w w' p p' o' (written ∙ x.0) used x.1 other fresh)
    (subst (IsNearPace l p u w) none near))
