use Rattle.alm_laws.proofs.Heard.{acknowledge-heard, reset-heard}
use Rattle.alm_laws.proofs.askers.consoles_are_heard.Goals as goal

pub returns : goal.returns
returns c = record { acknowledge = acknowledge-heard; reset = reset-heard }
