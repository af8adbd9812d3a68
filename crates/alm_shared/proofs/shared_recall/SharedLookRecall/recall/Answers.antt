use Rattle.std.proofs.Common.{rules}
use Rattle.alm_shared.proofs.shared_recall.SharedLookRecall.recall.Goals as goal

pub returns-in-Ok-clause-made : goal.returns-in-Ok-clause-made
returns-in-Ok-clause-made g c = (search rules, search rules, search rules)
