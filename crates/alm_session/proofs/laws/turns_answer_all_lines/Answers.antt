use Rattle.alm_session.proofs.Ended.{answered_all, join}
use Rattle.alm_session.proofs.Joins.{among}
use Rattle.alm_session.proofs.laws.turns_answer_all_lines.Goals as goal

pub returns : goal.returns
returns g c = record { among = λ x y. among g.L.Look.looked g.L.Recall.recalled x y; join = join; ended = answered_all }
