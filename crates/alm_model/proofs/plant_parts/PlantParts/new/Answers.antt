use Rattle.std.proofs.Common.{rules, sym, subst}
use Rattle.alm_model.specs.Rules.{KeepsRules}
use Rattle.alm_model.proofs.Kept.{new-keeps}
use Rattle.alm_model.proofs.plant_parts.PlantParts.new.Goals as goal

pub returns-clause-rules : goal.returns-clause-rules
returns-clause-rules c = subst KeepsRules (sym (search rules)) (new-keeps c.args.table.now c.alarms-alarms.ensures.table)
