-- The program's commands and their words, as `clap` reads them.
use Rattle.std.specs.Prelude.{◌≡◌, Some, codes, true, false}
use Rattle.clap.specs.Words.{App, Rule, Text, app_of, new_app, new_rule, rule_of}
use Rattle.clap.specs.Words.{with_rule, with_subcommand}
use Rattle.clap.specs.declared.builder.arg.Arg.{Arg}
use Rattle.clap.specs.declared.builder.command.Command.{Command}
use Rattle.clap.specs.declared.builder.command.Command.TheViews.{out-Command as fields_of}
use Rattle.clap.specs.declared.builder.action.ArgAction.TheVariants.{Set}

-- a word that has to be there, one that may be left out, and one that follows its name
abbrev pub wanted : Text → Rule
wanted name = record (new_rule name) { required = true; action = Some Set }

abbrev pub optional : Text → Rule
optional name = record (wanted name) { required = false }

abbrev pub named : Rule → Rule
named rule = record rule { long = Some rule.id }

-- desk [DEVICE]
abbrev pub desk : App
desk = with_rule (new_app (codes "desk")) (optional (codes "device"))

-- format DEVICE TABLE [--version 02 or 03]
abbrev pub format : App
format =
    with_rule (with_rule (with_rule (new_app (codes "format")) (wanted (codes "device")))
    (wanted (codes "table"))) (named (optional (codes "version")))

-- upgrade DEVICE [--version 02 or 03]
abbrev pub upgrade : App
upgrade = with_rule (with_rule (new_app (codes "upgrade")) (wanted (codes "device"))) (named (optional (codes "version")))

-- show DEVICE
abbrev pub show : App
show = with_rule (new_app (codes "show")) (wanted (codes "device"))

-- export DEVICE
abbrev pub export : App
export = with_rule (new_app (codes "export")) (wanted (codes "device"))

-- serve DEVICE [--port P] [--sockets FOLDER] [--conns N] [--patience SECONDS] [--scrub SECONDS], of which a server is asked port or
-- folder
abbrev pub serve : App
serve =
    with_rule (with_rule (with_rule (with_rule (with_rule (with_rule (new_app (codes "serve")) (wanted (codes "device")))
    (named (optional (codes "port")))) (named (optional (codes "sockets")))) (named (optional (codes "conns"))))
    (named (optional (codes "patience")))) (named (optional (codes "scrub")))

-- a program that is asked for one of its commands
abbrev pub program : App
program =
    let alone = new_app (codes "alm_server") in
    record alone { top = record alone.top { subcommand_required = true } }

unfoldable pub commands : App
commands =
    with_subcommand (with_subcommand (with_subcommand (with_subcommand (with_subcommand (with_subcommand program desk.top)
    format.top) upgrade.top) show.top) export.top) serve.top

-- a word and a command of `clap` that are read so, at their own command alone
abbrev pub IsWord : Rule → Arg → Type 0
IsWord rule arg = (rule_of arg ≡ rule) × (arg.global ≡ false)

abbrev pub IsCommand : App → Command → Type 0
IsCommand app command = (app_of command ≡ app) × ((fields_of command).has_globals ≡ false)
