use Rattle.alm_laws.proofs.Shown.{one-shown, state-told}
use Rattle.alm_laws.proofs.showing.an_alarm_is_shown_as_it_is.Goals as goal

pub returns : goal.returns
returns c = record { one = one-shown; told = state-told }
