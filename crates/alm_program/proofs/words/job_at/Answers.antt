use Rattle.std.proofs.Common.{◌∙◌, rules, codes}
use Rattle.clap.specs.Words.{found_of, rows_of}
use Rattle.clap.proofs.WalkLemmas.{first_value-rows}
use Rattle.alm_program.proofs.Found.{desk_at}
use Rattle.alm_program.proofs.words.job_at.Goals as goal

pub returns-in-desk-clause-asked : goal.returns-in-desk-clause-asked
returns-in-desk-clause-asked c =
    let found = found_of c.args.matches.now in
    let device = first_value-rows found (codes "device") in
    desk_at c.args.name.now (rows_of found) _ (search rules) (c.get_str.ensures ∙ device)
