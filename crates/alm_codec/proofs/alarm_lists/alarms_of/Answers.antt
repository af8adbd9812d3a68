use Rattle.std.proofs.Common.{arith}
use Rattle.alm_codec.specs.ImageFields.{alarm_field, alarms_in, seen_then}
use Rattle.alm_codec.proofs.Loops.{goes_on, fails, is_done}
use Rattle.alm_codec.proofs.alarm_lists.alarms_of.Goals as goal

pub returns-in-Err-clause-alarms : goal.returns-in-Err-clause-alarms
returns-in-Err-clause-alarms c =
    fails (alarm_field c.args.clock c.args.next_stamp c.args.areas) (λ seen a. seen_then seen a.state.stamp) c.in-Err.left.0 (alarms_in c.loop.lists.attrs.items c.loop.lists.rows.items c.loop.lists.moments.items) c.loop.lists.seen.keys c.args.rows c.loop.counter c.loop.rest.now _ c.loop-test.true c.in-Err.ensures.alarm c.loop.invariant.so_far

pub loop-preserved : goal.loop-preserved
loop-preserved c = record {
  attrs = omega (arith, c.in_ok-push.ensures.attrs, c.loop.invariant.attrs);
  rows = omega (arith, c.in_ok-push.ensures.rows, c.loop.invariant.rows);
  moments = omega (arith, c.in_ok-push.ensures.moments, c.loop.invariant.moments);
  so_far = rw (c.in_ok-push.ensures.alarms, c.in_ok-push.ensures.seen)
      (goes_on (alarm_field c.args.clock c.args.next_stamp c.args.areas) (λ seen a. seen_then seen a.state.stamp) (alarms_in c.loop.lists.attrs.items c.loop.lists.rows.items c.loop.lists.moments.items) c.loop.lists.seen.keys c.args.rows c.loop.counter c.loop.rest.now _ c.in-Ok.found.1.now _ c.loop-test.true c.in-Ok.ensures.alarm c.loop.invariant.so_far);
}

pub returns-clause-alarms : goal.returns-clause-alarms
returns-clause-alarms c =
    is_done (alarm_field c.args.clock c.args.next_stamp c.args.areas) (λ seen a. seen_then seen a.state.stamp) (alarms_in c.loop.lists.attrs.items c.loop.lists.rows.items c.loop.lists.moments.items) c.loop.lists.seen.keys c.args.rows c.loop.counter c.loop.rest.now _ c.loop-test.false c.loop.invariant.so_far
