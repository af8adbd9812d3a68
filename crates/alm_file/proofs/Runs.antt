-- Honest runs.
use Rattle.std.proofs.Common.{◌≡◌, ◌≢◌, ℕ, Bool, List, [], ◌∷◌, ◌++◌, take, drop, refl, sym, subst}
use Rattle.std.specs.Prelude.{IsTrue, bytes_eq, not, ◌||◌}
use Rattle.std.proofs.lemmas.Bool.{and_from}
use Rattle.alm_disk.specs.declared.call.Call.{Call}
use Rattle.alm_disk.specs.declared.call.Call.TheVariants.{Read, Write, Sync}
use Rattle.alm_file.specs.Events.{FileEvent}
use Rattle.alm_file.specs.Replay.{Replayed, replayed_call, replay, IsTrueAnswer, AreTrueAnswers, NoneReads}

step : (start : List ℕ) (call : Call) (done : Bool) (bytes : List ℕ) (r : Replayed) → r.state.bytes ≡ start → IsTrue r.honest → IsTrueAnswer start call done bytes
    → ((replayed_call call done bytes r).state.bytes ≡ start) × IsTrue (replayed_call call done bytes r).honest
step start (Read at n) done bytes r same honest is = (same, and_from _ _ honest (subst (λ (b : List ℕ). IsTrue (not done || bytes_eq bytes (take n (drop at b)))) (sym same) is))
step start (Write at n) done bytes r same honest is = absurd is
step start Sync done bytes r same honest is = (same, honest)

true_answers : (start : List ℕ) (events : List FileEvent) → AreTrueAnswers start events → ((replay start events).state.bytes ≡ start) × IsTrue (replay start events).honest
true_answers start [] are = (refl, refl)
true_answers start (e ∷ earlier) are = let was = true_answers start earlier are.1 in step start e.call e.done e.bytes (replay start earlier) was.0 was.1 are.0

stays : (call : Call) (done : Bool) (bytes : List ℕ) (r : Replayed) → ((at n : ℕ) → call ≢ Read at n) → IsTrue r.honest → IsTrue (replayed_call call done bytes r).honest
stays (Read at n) done bytes r other honest = absurd (other at n refl)
stays (Write at n) done bytes r other honest = honest
stays Sync done bytes r other honest = honest

pub honest_run : (start : List ℕ) (later earlier : List FileEvent) → AreTrueAnswers start earlier → NoneReads later → IsTrue (replay start (later ++ earlier)).honest
honest_run start [] earlier are none = (true_answers start earlier are).1
honest_run start (e ∷ later) earlier are none = stays e.call e.done e.bytes (replay start (later ++ earlier)) none.0 (honest_run start later earlier are none.1)
