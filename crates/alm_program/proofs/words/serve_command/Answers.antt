use Rattle.std.proofs.Common.{rules, codes}
use Rattle.clap.specs.Words.{new_app, with_rule}
use Rattle.alm_program.specs.Commands.{IsCommand, wanted}
use Rattle.alm_program.proofs.words.serve_command.Goals as goal

pub returns : goal.returns
returns c =
    let device : IsCommand (with_rule (new_app (codes "serve")) (wanted (codes "device"))) c.in_ok-above.above = search rules in
    let port = c.in_ok-above-2.ensures _ device in
    let sockets = c.in_ok-above-3.ensures _ port in
    let conns = c.in_ok-above-4.ensures _ sockets in
    let patience = c.in_ok-above-5.ensures _ conns in
    c.with_option-5.ensures _ patience
