use Rattle.alm_laws.proofs.Listing.{shelved-found, slot-told}
use Rattle.alm_laws.proofs.lists.a_shelved_alarm_is_listed.Goals as goal

pub returns : goal.returns
returns c = record { listed = shelved-found; told = slot-told }
