use Rattle.std.proofs.Common.{◌++◌, [], codes, append-nil}
use Rattle.std.specs.Fmt.{decimal}
use Rattle.alm_types.specs.declared.query.Query.TheVariants.{Area, Flood}
use Rattle.alm_model.specs.Look.{look}
use Rattle.alm_lines.proofs.Prefixes.{prints_err, prints_then, cut_in_first}
use Rattle.alm_export.specs.Showing.{told_between}
use Rattle.alm_export.proofs.showing.show_area.Goals as goal

pub returns-in_err-show_told-clause-text : goal.returns-in_err-show_told-clause-text
returns-in_err-show_told-clause-text g c =
    let flood = told_between [] (codes "\n") (look (g.P.Alarms.plant c.args.plant.now) (Flood c.args.area)) in
    let cut = rw (append-nil (decimal c.from.result), c.from.ensures) at c.in_err-show_told.ensures.text in
    prints_err _ c.from_residual.ensures.0 (cut_in_first cut flood)

pub returns-clause-text : goal.returns-clause-text
returns-clause-text g c =
    let q = g.P.Alarms.plant c.args.plant.now in
    let first = rw (append-nil (decimal c.from.result), c.from.ensures) at c.in_ok-show_told.ensures.text in
    prints_then _ _ (told_between (codes "A " ++ decimal c.args.area) (codes " FLOOD") (look q (Area c.args.area))) first _ (told_between [] (codes "\n") (look q (Flood c.args.area))) _ c.show_told-2.ensures.text
