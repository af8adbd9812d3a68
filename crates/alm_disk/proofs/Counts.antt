-- The count of failures.
use Rattle.std.proofs.Common.{inl, inr, ⊎_elim, ◌<◌, ◌≤◌, ℕ, Result, Ok, Err, OnErr, arith}
use Rattle.std.proofs.lemmas.Bool.{cases_lt}
use Rattle.alm_disk.specs.Failures.{CountsFault, HasFailed, last_count}

-- a fault is returned only if the device failed
pub has_failed : {E : Type 0} (result : Result Unit E) (before now : ℕ) → CountsFault result before now → OnErr result (HasFailed before now)
has_failed (Ok _) before now counts = tt
has_failed (Err e) before now counts = ⊎_elim (λ (under : before < last_count). inl (omega (arith, counts.fault))) (λ (at : last_count ≤ before). inr (omega (arith, counts.limit))) (cases_lt before last_count)

-- the count never falls
pub never_falls : {E : Type 0} (result : Result Unit E) (before now : ℕ) → CountsFault result before now → before ≤ now
never_falls (Ok _) before now counts = omega arith
never_falls (Err e) before now counts = omega arith
