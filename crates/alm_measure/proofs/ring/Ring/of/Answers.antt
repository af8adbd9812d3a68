use Rattle.std.proofs.Common.{◌∙◌, arith, ap, sum, sym}
use Rattle.std.proofs.lemmas.List.{append-nil}
use Rattle.alm_measure.proofs.ring.Ring.of.Goals as goal

pub invariant_of-result : goal.invariant_of-result
invariant_of-result c = record {
  seconds = c.counts.ensures.seconds;
  place = omega arith;
  all = c.window.ensures ∙ ap sum (sym c.counts.ensures.counts ∙ sym (append-nil c.counts.result.now));
}
