use Rattle.std.specs.Prelude.{replicate, []}
use Rattle.alm_desk.proofs.Wholes.{lines-whole}
use Rattle.alm_desk.proofs.laws.lines_are_whole.Goals as goal

pub returns : goal.returns
returns c = record { held = lines-whole; fresh = lines-whole (replicate 18 []) }
