use Rattle.alm_rings.specs.Ends.{SameConsole}
use Rattle.alm_speed.proofs.rings.exchange.send.Given as goal

abbrev pub invariant-loop : goal.invariant-loop
invariant-loop l = SameConsole l.fn.console l.console
