use Rattle.alm_speed.specs.Sizes.{IsOfSizes}
use Rattle.alm_speed.proofs.links.moves.Given as goal

abbrev pub invariant-loop-turn : goal.invariant-loop-turn
invariant-loop-turn l = IsOfSizes l.nodes l.lists l.chains
