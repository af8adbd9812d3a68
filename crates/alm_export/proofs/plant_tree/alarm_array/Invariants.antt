use Rattle.std.proofs.Common.{◌≡◌, take}
use Rattle.toml.specs.View.{array_view}
use Rattle.alm_export.specs.Tree.{alarm_items}
use Rattle.alm_export.proofs.plant_tree.alarm_array.Given as goal

-- the alarms so far
abbrev pub invariant-loop-number : goal.invariant-loop-number
invariant-loop-number g l = array_view l.array ≡ alarm_items (take l.number (g.P.Alarms.plant l.fn.plant).panel.attrs)
