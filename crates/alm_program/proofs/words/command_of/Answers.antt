use Rattle.std.proofs.Common.{◌∙◌, ap, map, subst, sym}
use Rattle.std.specs.String.{string_bytes}
use Rattle.clap.specs.Words.{App, HasKind, fault_of, is_simple, is_simple_and_free, subcommand_of}
use Rattle.alm_program.proofs.Parsed.{asked, asked_nothing, commands-free, commands-simple, met, met_none, refused}
use Rattle.alm_program.proofs.words.command_of.Goals as goal

pub returns-in_err-matches-clause-asked : goal.returns-in_err-matches-clause-asked
returns-in_err-matches-clause-asked c =
    let command = c.in_ok-commands.ensures.0 in
    let words = map string_bytes c.args.words.now in
    let e = c.in_err-matches.field-0.0 in
    let kinds = c.in_err-matches.ensures.kinds (ap is_simple_and_free command ∙ commands-free) in
    let told = c.from_residual-in_err-matches.ensures in
    refused _ e _ told.0 told.1 (subst (λ (a : App). HasKind (fault_of a words) e) command kinds)

pub returns-in-Some-clause-asked : goal.returns-in-Some-clause-asked
returns-in-Some-clause-asked c =
    let command = c.in_ok-commands.ensures.0 in
    let words = map string_bytes c.args.words.now in
    let none = c.in_ok-matches.ensures.kinds (ap is_simple_and_free command ∙ commands-free) in
    let rows = c.in_ok-matches.ensures.matches (ap is_simple command ∙ commands-simple) in
    let named = met _ _ _ c.in-Some.ensures.name c.in-Some.ensures.rows in
    let order = asked words _ _ (ap (λ (a : App). fault_of a words) (sym command) ∙ none) (ap (λ (a : App). subcommand_of a words) (sym command) ∙ (sym rows.1 ∙ named)) in
    rw order c.job_at.ensures.asked

pub returns-clause-asked : goal.returns-clause-asked
returns-clause-asked c =
    let command = c.in_ok-commands.ensures.0 in
    let words = map string_bytes c.args.words.now in
    let none = c.in_ok-matches.ensures.kinds (ap is_simple_and_free command ∙ commands-free) in
    let rows = c.in_ok-matches.ensures.matches (ap is_simple command ∙ commands-simple) in
    let named = met_none _ c.in-None.ensures.name in
    asked_nothing words (ap (λ (a : App). fault_of a words) (sym command) ∙ none) (ap (λ (a : App). subcommand_of a words) (sym command) ∙ (sym rows.1 ∙ named))
