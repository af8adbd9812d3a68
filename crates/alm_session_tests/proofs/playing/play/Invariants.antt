use Rattle.alm_rings.specs.Ends.{AreEnds}
use Rattle.alm_session_tests.proofs.playing.play.Given as goal

abbrev pub invariant-loop-turn : goal.invariant-loop-turn
invariant-loop-turn g l = AreEnds l.console l.inbox l.outbox
