use Rattle.std.proofs.Common.{◌≡◌, ◌≤◌, rules, length, None}
use Rattle.alm_types.specs.Tables.{table_fault}
use Rattle.alm_table.proofs.Whole.{whole}
use Rattle.alm_table.proofs.loading.file_of.Goals as goal

pub unreachable-requires : goal.unreachable-requires
unreachable-requires c =
    let alarms = c.in_ok-alarms.alarms.items in
    let areas = c.in_ok-areas.field-0 in
    let some : 1 ≤ length alarms = search (rules, c.in_ok-alarms.ensures.all) in
    let few : length alarms ≤ 16384 = search (rules, c.in_ok-alarms.ensures.all) in
    let none : table_fault alarms areas ≡ None = whole areas alarms some few c.in_ok-areas.ensures.limits c.in_ok-alarms.ensures.areas in
    search (rules, none, c.in-Err.ensures.fault)
