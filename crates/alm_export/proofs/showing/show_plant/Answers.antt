use Rattle.std.proofs.Common.{◌++◌, length}
use Rattle.std.specs.List.{flat_map, range_with_len}
use Rattle.std.proofs.KnownBytes.{Appends-trans}
use Rattle.alm_lines.proofs.Prefixes.{prints_err, prints_then, cut_in_first, cut_in_second}
use Rattle.alm_export.specs.Showing.{alarm_line, priority_line, area_line, head_line}
use Rattle.alm_export.proofs.showing.show_plant.Goals as goal

pub returns-in_err-parts-clause-text : goal.returns-in_err-parts-clause-text
returns-in_err-parts-clause-text g c =
    let q = g.P.Alarms.plant c.args.plant.now in
    let alarms = flat_map (alarm_line q) (range_with_len 0 (length q.panel.rows)) in
    let priorities = flat_map (priority_line q) (range_with_len 1 4) in
    let areas = flat_map (area_line q) (range_with_len 0 (length q.floods)) in
    let cut = rw (c.seconds.ensures.seconds, c.now.ensures, c.count.ensures) at c.in_err-parts.ensures.bytes in
    prints_err _ c.from_residual.ensures.0 (cut_in_first (cut_in_first (cut_in_first cut alarms) priorities) areas)

pub returns-in_err-show_alarms-clause-text : goal.returns-in_err-show_alarms-clause-text
returns-in_err-show_alarms-clause-text g c =
    let q = g.P.Alarms.plant c.args.plant.now in
    let priorities = flat_map (priority_line q) (range_with_len 1 4) in
    let areas = flat_map (area_line q) (range_with_len 0 (length q.floods)) in
    let head = rw (c.seconds.ensures.seconds, c.now.ensures, c.count.ensures) at c.in_ok-parts.ensures.bytes in
    let cut = rw c.alarms.ensures.alarms at c.in_err-show_alarms.ensures.text in
    prints_err _ c.from_residual-in_err-show_alarms.ensures.0 (cut_in_first (cut_in_first (cut_in_second (head_line q c.args.epoch) head cut) priorities) areas)

pub returns-in_err-show_priorities-clause-text : goal.returns-in_err-show_priorities-clause-text
returns-in_err-show_priorities-clause-text g c =
    let q = g.P.Alarms.plant c.args.plant.now in
    let alarms = flat_map (alarm_line q) (range_with_len 0 (length q.panel.rows)) in
    let areas = flat_map (area_line q) (range_with_len 0 (length q.floods)) in
    let head = rw (c.seconds.ensures.seconds, c.now.ensures, c.count.ensures) at c.in_ok-parts.ensures.bytes in
    let first = rw c.alarms.ensures.alarms at c.in_ok-show_alarms.ensures.text in
    prints_err _ c.from_residual-in_err-show_priorities.ensures.0
    (cut_in_first (cut_in_second (head_line q c.args.epoch ++ alarms) (Appends-trans _ _ _ (head_line q c.args.epoch) alarms head first) c.in_err-show_priorities.ensures.text) areas)

pub returns-clause-text : goal.returns-clause-text
returns-clause-text g c =
    let q = g.P.Alarms.plant c.args.plant.now in
    let alarms = flat_map (alarm_line q) (range_with_len 0 (length q.panel.rows)) in
    let priorities = flat_map (priority_line q) (range_with_len 1 4) in
    let areas = flat_map (area_line q) (range_with_len 0 (length q.floods)) in
    let head = rw (c.seconds.ensures.seconds, c.now.ensures, c.count.ensures) at c.in_ok-parts.ensures.bytes in
    let first = rw c.alarms.ensures.alarms at c.in_ok-show_alarms.ensures.text in
    let front = Appends-trans _ _ _ (head_line q c.args.epoch) alarms head first in
    let last = rw c.areas.ensures at c.show_areas.ensures.text in
    prints_then _ _ (head_line q c.args.epoch ++ alarms ++ priorities) (Appends-trans _ _ _ (head_line q c.args.epoch ++ alarms) priorities front c.in_ok-show_priorities.ensures.text) _ areas _ last
