use Rattle.alm_laws.proofs.Asking.{shelved-by, service-by, attributes-by}
use Rattle.alm_laws.proofs.askers.only_consoles_operate.Goals as goal

pub returns : goal.returns
returns c = record { shelves = shelved-by; service = service-by; attributes = attributes-by }
