use Rattle.std.proofs.Common.{◌≡◌, ◌≤◌, length, Some, ap, arith}
use Rattle.std.proofs.lemmas.Str.{IsUtf8-string_bytes}
use Rattle.toml.specs.View.{table_view}
use Rattle.alm_export.specs.Tree.{named_size, file_members}
use Rattle.alm_export.proofs.Reading.{read_whole, shallow}
use Rattle.alm_export.proofs.exporting.table_text.Goals as goal

pub returns-in-Ok : goal.returns-in-Ok
returns-in-Ok g c =
    let q = g.P.Alarms.plant c.args.plant.now in
    let keeps = c.plant_table.ensures.rules in
    let size = named_size c.args.size in
    let least : 1 ≤ size = omega arith in
    let most : size ≤ 1099511627776 = omega arith in
    let some : 1 ≤ length q.panel.attrs = omega (arith, keeps.attrs, keeps.some) in
    let few : length q.panel.attrs ≤ 16384 = omega (arith, keeps.attrs, keeps.few) in
    let seen : table_view c.in_ok-table.table ≡ file_members size (length q.floods) q.panel.attrs = rw c.named_size.ensures at c.in_ok-table.ensures.table in
    let read = read_whole size (length q.floods) q.panel.attrs least most keeps.areas.0 keeps.areas.1 some few keeps.in_areas in
    let back = c.in-Ok.ensures.reads_back (rw seen (shallow size (length q.floods) q.panel.attrs)) in
    (IsUtf8-string_bytes c.in-Ok.text, rw (back, seen) (ap Some read))
