use Rattle.std.proofs.Common.{arith, sym, ◌∙◌, rules}
use Rattle.alm_session.proofs.Drained.{drained_more, drained_on}
use Rattle.alm_session.proofs.draining.drain.Goals as goal

pub loop-receipt-preserved : goal.loop-receipt-preserved
loop-receipt-preserved g c = record {
  base = c.drop_one.ensures.base ∙ c.loop-receipt.invariant.base;
  end = search rules;
  sent = c.drop_one.ensures.sent ∙ c.loop-receipt.invariant.sent;
  drained = drained_more c.loop-receipt.invariant.drained (drained_on (sym c.loop-receipt.invariant.base) c.drop_one.ensures.drained);
  many = omega (arith, c.drop_one.ensures.one c.if-not-drop_one.false, c.loop-receipt.invariant.many);
}

pub returns-then-not-drop_one-clause-drained : goal.returns-then-not-drop_one-clause-drained
returns-then-not-drop_one-clause-drained g c = drained_more c.loop-receipt.invariant.drained (drained_on (sym c.loop-receipt.invariant.base) c.drop_one.ensures.drained)
