use Rattle.std.proofs.Common.{refl}
use Rattle.alm_model.specs.Condense.{condense}
use Rattle.alm_model.proofs.Whole.{counted-along}
use Rattle.alm_model.proofs.laws.measures.measures_are_those_condensed.Goals as goal

pub returns : goal.returns
returns c = λ p recorded rules. counted-along p (condense p) (record { recorded = recorded; same = refl; rules = rules })
