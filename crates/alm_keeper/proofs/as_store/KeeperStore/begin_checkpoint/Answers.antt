use Rattle.std.proofs.Common.{rules}
use Rattle.alm_keeper.proofs.StoreBegun.{copied_cause}
use Rattle.alm_keeper.proofs.CallsLeft.{checkpoint_calls, checkpoint_room}
use Rattle.alm_keeper.proofs.StorePassing.{opened_checkpoint, not_opened}
use Rattle.alm_keeper.proofs.StorePacing.{fresh, newest_copied}
use Rattle.alm_keeper.proofs.as_store.KeeperStore.begin_checkpoint.Goals as goal

pub returns-clause-cause : goal.returns-clause-cause
returns-clause-cause g c = λ idle left. copied_cause c.begin_checkpoint.result c.args.self.now c.begin_checkpoint.ensures.answer idle left

pub returns-clause-room : goal.returns-clause-room
returns-clause-room g c = checkpoint_room c.begin_checkpoint.result c.args.self.now c.begin_checkpoint.new.self c.segment-least.ensures.least c.begin_checkpoint.ensures.begins

pub returns-clause-begun : goal.returns-clause-begun
returns-clause-begun g c =
    let old = c.args.self.now in
    let new = c.begin_checkpoint.new.self in
    let result = c.begin_checkpoint.result in
    let e = c.begin_checkpoint.ensures in
    opened_checkpoint old new result e.answer e.begins (checkpoint_calls result old new c.images.ensures.order.lengths.0 e.begins) (fresh old new result e.begins)

pub returns-clause-refused : goal.returns-clause-refused
returns-clause-refused g c = not_opened c.args.self.now c.begin_checkpoint.new.self c.begin_checkpoint.result c.begin_checkpoint.ensures.begins

pub returns-clause-standing : goal.returns-clause-standing
returns-clause-standing g c = (search rules, newest_copied c.args.self.now c.begin_checkpoint.new.self c.begin_checkpoint.result c.begin_checkpoint.ensures.begins)
