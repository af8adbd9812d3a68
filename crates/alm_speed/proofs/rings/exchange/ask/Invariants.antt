use Rattle.alm_rings.specs.Ends.{SameConsole}
use Rattle.alm_speed.proofs.rings.exchange.ask.Given as goal

abbrev pub invariant-loop : goal.invariant-loop
invariant-loop g l = SameConsole l.fn.console l.console
