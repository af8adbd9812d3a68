use Rattle.std.proofs.Common.{rules}
use Rattle.alm_program.proofs.Ending.{shown_in_part, shown_whole}
use Rattle.alm_program.proofs.showing.print_plant.Goals as goal

pub returns-in_err-show_plant-clause-text : goal.returns-in_err-show_plant-clause-text
returns-in_err-show_plant-clause-text g c =
    shown_in_part _ _ c.args.keeper.now.stored.plant c.stored.result.now c.args.keeper.now.stored.epoch c.epoch.result c.from_residual.result (search rules)
    c.stored.ensures c.epoch.ensures c.in_err-show_plant.ensures.text

pub returns-clause-text : goal.returns-clause-text
returns-clause-text g c =
    shown_whole _ _ _ c.args.keeper.now.stored.plant c.stored.result.now c.args.keeper.now.stored.epoch c.epoch.result
    c.stored.ensures c.epoch.ensures c.in_ok-show_plant.ensures.text c.flush.ensures.bytes
