use Rattle.std.proofs.Common.{◌≡◌, ◌∙◌, ◌++◌, ◌∷◌, [], slice_get, Some, sym, rules, arith}
use Rattle.toml.proofs.Views.{items_view-push, view-Table}
use Rattle.toml.specs.declared.value.Value.{Table}
use Rattle.alm_export.proofs.Members.{more}
use Rattle.alm_export.proofs.plant_tree.alarm_array.Goals as goal

pub loop-number-init : goal.loop-number-init
loop-number-init g c = search rules

pub loop-number-preserved : goal.loop-number-preserved
loop-number-preserved g c =
    let attrs = (g.P.Alarms.plant c.args.plant.now).panel.attrs in
    let found : slice_get attrs c.loop-number.number ≡ Some c.in-Some.attr = search rules in
    let pushed : c.push.new.self.items ≡ c.loop-number.array.items ++ Table c.in_ok-table.table ∷ [] = search rules in
    rw pushed (items_view-push c.loop-number.array.items (Table c.in_ok-table.table)
    ∙ rw (c.loop-number.invariant, view-Table c.in_ok-table.table, c.in_ok-table.ensures) (sym (more attrs c.loop-number.number c.in-Some.attr found)))

pub returns : goal.returns
returns g c =
    let all : c.loop-number.number ≡ c.args.count = omega (arith, c.loop-number-test.false, c.loop-number.auto.number-end) in
    rw (← all) c.loop-number.invariant
