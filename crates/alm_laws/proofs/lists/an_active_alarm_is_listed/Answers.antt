use Rattle.alm_laws.proofs.Listing.{active-found, suppressed-hidden}
use Rattle.alm_laws.proofs.lists.an_active_alarm_is_listed.Goals as goal

pub returns : goal.returns
returns c = record { active = active-found; suppressed = suppressed-hidden }
