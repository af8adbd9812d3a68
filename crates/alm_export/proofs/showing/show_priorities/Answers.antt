use Rattle.std.proofs.Common.{◌≡◌, ◌≤◌, ◌<◌, ◌+◌, ◌-◌, arith, rules}
use Rattle.alm_lines.proofs.Prefixes.{prints_err}
use Rattle.alm_export.specs.Showing.{priority_line}
use Rattle.alm_export.proofs.Shown.{wrote_line, cut_in_line}
use Rattle.alm_export.proofs.showing.show_priorities.Goals as goal

pub returns-in_err-show_priority-clause-text : goal.returns-in_err-show_priority-clause-text
returns-in_err-show_priority-clause-text g c =
    let i = c.loop-priority.priority in
    let low : 1 ≤ i = c.loop-priority.invariant.1 in
    let high : i < 5 = search rules in
    prints_err _ c.from_residual.ensures.0 (cut_in_line (priority_line (g.P.Alarms.plant c.args.plant.now)) 1 4 (i - 1) i _ _ _ (omega (arith, low, high)) (omega (arith, low)) c.loop-priority.invariant.0 c.in_err-show_priority.ensures.text)

pub loop-priority-preserved : goal.loop-priority-preserved
loop-priority-preserved g c =
    let i = c.loop-priority.priority in
    let low : 1 ≤ i = c.loop-priority.invariant.1 in
    let high : i < 5 = search rules in
    let same : i - 1 + 1 ≡ i + 1 - 1 = omega (arith, low) in (
      rw (← same) (wrote_line (priority_line (g.P.Alarms.plant c.args.plant.now)) 1 4 (i - 1) i _ _ _ (omega (arith, low, high)) (omega (arith, low)) c.loop-priority.invariant.0 c.in_ok-show_priority.ensures.text),
      omega arith,
      search (rules, c.loop-priority.invariant.2, c.in_ok-show_priority.ensures.counts),
      search (rules, c.loop-priority.invariant.3, c.in_ok-show_priority.ensures.counts),
    )
