use Rattle.alm_model.proofs.Together.{cond-after, falling-after, past-recorded}
use Rattle.alm_model.proofs.laws.measures.step_is_after_condensed.Goals as goal

pub returns : goal.returns
returns c = record {
  same = λ p action past h. cond-after p action (past-recorded p.panel.now p.kept past) h;
  recorded = falling-after;
}
