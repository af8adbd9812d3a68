use Rattle.alm_laws.proofs.Measuring.{flood-so}
use Rattle.alm_laws.proofs.lists.a_flood_begins_and_ends_by_its_window.Goals as goal

pub returns : goal.returns
returns c = flood-so
