use Rattle.std.proofs.Common.{rules, codes}
use Rattle.clap.specs.Words.{new_app, with_rule}
use Rattle.alm_program.specs.Commands.{IsCommand, wanted}
use Rattle.alm_program.proofs.words.upgrade_command.Goals as goal

pub returns : goal.returns
returns c =
    let above : IsCommand (with_rule (new_app (codes "upgrade")) (wanted (codes "device"))) c.in_ok-above.above = search rules in
    c.with_option.ensures _ above
