use Rattle.std.proofs.Common.{rules}
use Rattle.alm_program.specs.Commands.{IsCommand, commands, desk, export, format, program, serve, show, upgrade}
use Rattle.alm_program.proofs.words.commands.Goals as goal

pub returns : goal.returns
unfolding commands
returns c =
    let named : IsCommand program c.subcommand_required-above.result = search rules in
    let desks = c.in_ok-above.ensures _ desk named c.desk_command.ensures in
    let formats = c.in_ok-above-2.ensures _ format desks c.format_command.ensures in
    let upgrades = c.in_ok-above-3.ensures _ upgrade formats c.upgrade_command.ensures in
    let shows = c.in_ok-above-4.ensures _ show upgrades c.show_command.ensures in
    let exports = c.in_ok-above-5.ensures _ export shows c.export_command.ensures in
    c.with-6.ensures _ serve exports c.serve_command.ensures
