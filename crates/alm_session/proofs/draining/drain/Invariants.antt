use Rattle.std.proofs.Common.{◌≡◌, ◌+◌, length}
use Rattle.alm_rings.specs.Ends.{SameConsole, sent_of, received_of}
use Rattle.alm_session.specs.Draining.{IsDrained}
use Rattle.alm_session.specs.Sides.{heard_by}
use Rattle.alm_session.proofs.draining.drain.Given as goal

-- what was received so far is learnt
abbrev pub invariant-loop-receipt : goal.invariant-loop-receipt
invariant-loop-receipt g l = record {
  base : g.L.Look.base l.look ≡ g.L.Look.base l.fn.look;
  end : SameConsole l.fn.console l.console;
  sent : sent_of l.console ≡ sent_of l.fn.console;
  drained : IsDrained (g.L.Look.base l.fn.look) (g.L.Look.knows l.fn.look) (heard_by l.fn.console) (g.L.Look.knows l.look) (heard_by l.console);
  many : length (received_of l.console) ≡ length (received_of l.fn.console) + l._receipt;
}
