use Rattle.alm_lines.proofs.SinceLengths.{plant-event-short, since-short}
use Rattle.alm_lines.proofs.laws.what_happened_is_short.Goals as goal

pub returns : goal.returns
returns c = record { event = plant-event-short; reply = since-short }
