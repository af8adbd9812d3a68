use Rattle.alm_laws.proofs.Flooded.{flood-since}
use Rattle.alm_laws.proofs.lists.a_flood_lasts_from_above_10_to_below_5.Goals as goal

pub returns : goal.returns
returns c = flood-since
