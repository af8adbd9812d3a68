use Rattle.alm_export.proofs.Members.{view_insert}
use Rattle.alm_export.proofs.tree.put.Goals as goal

pub returns-in-Ok : goal.returns-in-Ok
returns-in-Ok c = rw (c.in-Ok.ensures.entries, ← c.in_ok-key.ensures.ok) (view_insert c.args.table.now.entries c.in_ok-key.key c.args.value)
