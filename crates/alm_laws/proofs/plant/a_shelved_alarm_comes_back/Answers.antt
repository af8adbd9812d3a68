use Rattle.alm_laws.proofs.Moved.{shelved-so, shelved-ahead, never-overdue}
use Rattle.alm_laws.proofs.plant.a_shelved_alarm_comes_back.Goals as goal

pub returns : goal.returns
returns c = record { asked = shelved-so; ahead = shelved-ahead; runs = never-overdue }
