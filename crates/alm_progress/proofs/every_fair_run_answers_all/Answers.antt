use Rattle.alm_progress.proofs.Fair.{fair_life, fair_run, goes_driven}
use Rattle.alm_progress.proofs.every_fair_run_answers_all.Goals as goal

pub returns-clause-driven : goal.returns-clause-driven
returns-clause-driven c = λ slots calls more last w steps trace serve answers sound paces. goes_driven slots calls w more steps trace last serve answers sound paces

pub returns-clause-rounds : goal.returns-clause-rounds
returns-clause-rounds c = λ slots calls more last w rounds trace l are most answers sound paces. fair_run slots calls w more rounds trace last l are most answers sound paces

pub returns-clause-lives : goal.returns-clause-lives
returns-clause-lives c = λ slots calls last plant steps rounds trace rest same answers paces are sound most. fair_life slots calls plant steps rounds trace rest last same answers paces are sound most
