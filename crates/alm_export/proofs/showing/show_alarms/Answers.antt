use Rattle.std.proofs.Common.{◌≤◌, ◌<◌, arith, rules}
use Rattle.alm_lines.proofs.Prefixes.{prints_err}
use Rattle.alm_export.specs.Showing.{alarm_line}
use Rattle.alm_export.proofs.Shown.{wrote_line, cut_in_line, all_lines}
use Rattle.alm_export.proofs.showing.show_alarms.Goals as goal

pub returns-in_err-show_alarm-clause-text : goal.returns-in_err-show_alarm-clause-text
returns-in_err-show_alarm-clause-text g c =
    let in_range : c.loop-number.number < c.args.count = search rules in
    prints_err _ c.from_residual.ensures.0 (cut_in_line (alarm_line (g.P.Alarms.plant c.args.plant.now)) 0 c.args.count c.loop-number.number c.loop-number.number _ _ _ in_range (omega arith) c.loop-number.invariant.0 c.in_err-show_alarm.ensures.text)

pub loop-number-preserved : goal.loop-number-preserved
loop-number-preserved g c =
    let in_range : c.loop-number.number < c.args.count = search rules in (
      wrote_line (alarm_line (g.P.Alarms.plant c.args.plant.now)) 0 c.args.count c.loop-number.number c.loop-number.number _ _ _ in_range (omega arith) c.loop-number.invariant.0 c.in_ok-show_alarm.ensures.text,
      search (rules, c.loop-number.invariant.1, c.in_ok-show_alarm.ensures.counts),
      search (rules, c.loop-number.invariant.2, c.in_ok-show_alarm.ensures.counts),
    )

pub returns-clause-text : goal.returns-clause-text
returns-clause-text g c =
    let past : c.args.count ≤ c.loop-number.number = search rules in
    all_lines (alarm_line (g.P.Alarms.plant c.args.plant.now)) 0 c.args.count c.loop-number.number _ _ past c.loop-number.invariant.0
