use Rattle.std.proofs.Common.{refl}
use Rattle.alm_laws.proofs.Queries.{flood-reported, attributes-reported, row-reported, state-refused, row-refused, attributes-refused, flood-refused, list-refused}
use Rattle.alm_laws.proofs.showing.queries_report_the_plant.Goals as goal

pub returns : goal.returns
returns c = record { flood = flood-reported; plant = λ q. refl; attributes = attributes-reported; row = row-reported; stale = λ q. refl; chatter = λ q. refl; refused = λ q i e. (state-refused q i e, row-refused q i e); unlisted = attributes-refused; no_area = flood-refused; no_list = list-refused }
