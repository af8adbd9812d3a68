use Rattle.std.proofs.Common.{◌∙◌}
use Rattle.clap.specs.Words.{found_of}
use Rattle.clap.proofs.WalkLemmas.{first_value-rows}
use Rattle.alm_program.proofs.Found.{found}
use Rattle.alm_program.proofs.words.word.Goals as goal

pub returns : goal.returns
returns c =
    let name = c.args.name.now in
    let matches = found_of c.args.matches.now in
    rw c.ok_or.ensures.value (found _ _ (c.get_str.ensures ∙ first_value-rows matches name))
