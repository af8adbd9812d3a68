use Rattle.std.proofs.Common.{◌≤◌, ◌<◌, arith, rules}
use Rattle.alm_lines.proofs.Prefixes.{prints_err}
use Rattle.alm_export.specs.Showing.{area_line}
use Rattle.alm_export.proofs.Shown.{wrote_line, cut_in_line, all_lines}
use Rattle.alm_export.proofs.showing.show_areas.Goals as goal

pub returns-in_err-show_area-clause-text : goal.returns-in_err-show_area-clause-text
returns-in_err-show_area-clause-text g c =
    let in_range : c.loop-area.area < c.args.count = search rules in
    prints_err _ c.from_residual.ensures.0 (cut_in_line (area_line (g.P.Alarms.plant c.args.plant.now)) 0 c.args.count c.loop-area.area c.loop-area.area _ _ _ in_range (omega arith) c.loop-area.invariant.0 c.in_err-show_area.ensures.text)

pub loop-area-preserved : goal.loop-area-preserved
loop-area-preserved g c =
    let in_range : c.loop-area.area < c.args.count = search rules in (
      wrote_line (area_line (g.P.Alarms.plant c.args.plant.now)) 0 c.args.count c.loop-area.area c.loop-area.area _ _ _ in_range (omega arith) c.loop-area.invariant.0 c.in_ok-show_area.ensures.text,
      search (rules, c.loop-area.invariant.1, c.in_ok-show_area.ensures.counts),
      search (rules, c.loop-area.invariant.2, c.in_ok-show_area.ensures.counts),
    )

pub returns-clause-text : goal.returns-clause-text
returns-clause-text g c =
    let past : c.args.count ≤ c.loop-area.area = search rules in
    all_lines (area_line (g.P.Alarms.plant c.args.plant.now)) 0 c.args.count c.loop-area.area _ _ past c.loop-area.invariant.0
