use Rattle.alm_rings.specs.Ends.{SameConsole}
use Rattle.alm_rings_tests.proofs.threads.ask.Given as goal

abbrev pub invariant-loop : goal.invariant-loop
invariant-loop g l = SameConsole l.fn.console l.console
