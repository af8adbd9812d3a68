use Rattle.std.proofs.Common.{subst, arith, rules}
use Rattle.alm_codec.specs.Writing.{Wrote}
use Rattle.alm_codec.proofs.Writing.{Wrote-nothing, Wrote-then}
use Rattle.alm_codec.proofs.FrameWriting.{text_more, limits_more}
use Rattle.alm_codec.proofs.frame_writer.put_actions.Goals as goal

pub loop-action-init : goal.loop-action-init
loop-action-init c = record { end = omega arith; text = Wrote-nothing c.args.out.now c.args.at; limits = search rules }

pub loop-action-preserved : goal.loop-action-preserved
loop-action-preserved c =
    record {
      end = omega (arith, c.put_asked-end.ensures.end, c.loop-action.invariant.end);
      text = subst (Wrote c.args.out.now c.put_asked-end.new.out c.args.at c.put_asked-end.result) (text_more c.args.version c.args.actions.now c.loop-action.action-index _ c.loop-action-test.true c.action-item.is)
          (Wrote-then _ _ _ _ _ _ _ _ c.loop-action.invariant.text c.put_asked-end.ensures.text (omega arith));
      limits = limits_more c.args.actions.now c.loop-action.action-index _ c.loop-action-test.true c.action-item.is c.loop-action.invariant.limits c.put_asked-end.ensures.limits;
    }
