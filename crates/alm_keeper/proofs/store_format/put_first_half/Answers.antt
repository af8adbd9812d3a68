use Rattle.std.proofs.Common.{◌∷◌, arith, ◌∙◌}
use Rattle.alm_keeper.proofs.Setting.{set_before}
use Rattle.alm_keeper.proofs.store_format.put_first_half.Goals as goal

pub returns-clause-text : goal.returns-clause-text
returns-clause-text c = set_before c.args.out.now c.put_half.new.out c.closed_gate.result (omega (arith, c.requires.room)) ∙ (λ i. c.closed_gate.ensures i ∷ c.put_half.ensures.text i)
