use Rattle.std.proofs.Common.{◌∙◌, ap, codes, sym}
use Rattle.clap.specs.Words.{first_of, found_of, rows_of}
use Rattle.clap.proofs.WalkLemmas.{first_value-rows}
use Rattle.alm_codec.specs.declared.version.Version.TheVariants.{V02}
use Rattle.alm_program.specs.Orders.{version_in}
use Rattle.alm_program.proofs.Found.{formatted, not_versioned, read, unread}
use Rattle.alm_program.proofs.Parsed.{no_job}
use Rattle.alm_program.proofs.words.format_of.Goals as goal

pub returns-in_err-version_of-clause-asked : goal.returns-in_err-version_of-clause-asked
returns-in_err-version_of-clause-asked c =
    let found = found_of c.args.matches.now in
    let name = first_of (codes "version") (rows_of found) in
    let text = c.get_str.ensures ∙ first_value-rows found (codes "version") in
    let none = ap (version_in V02) (sym text) ∙ (unread _ _ c.in_err-version_of.ensures).1 in
    no_job _ _ (not_versioned _ _ name _ _ c.in_ok-word.ensures c.in_ok-word-2.ensures none) c.from_residual-in_err-version_of.ensures.0

pub returns-clause-asked : goal.returns-clause-asked
returns-clause-asked c =
    let found = found_of c.args.matches.now in
    let name = first_of (codes "version") (rows_of found) in
    let text = c.get_str.ensures ∙ first_value-rows found (codes "version") in
    let version = ap (version_in V02) (sym text) ∙ read _ _ c.in_ok-version_of.ensures in
    formatted _ _ name _ _ _ c.in_ok-word.ensures c.in_ok-word-2.ensures version
