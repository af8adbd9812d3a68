use Rattle.std.proofs.Common.{rules}
use Rattle.alm_model.specs.Judging.{accepted_of}
use Rattle.alm_keeper.specs.Batch.{accepted_asked}
use Rattle.alm_keeper.specs.Stages.{phase_of}
use Rattle.alm_keeper.proofs.Tried.{asked_accepted}
use Rattle.alm_keeper.proofs.StoreBegun.{begun_admitted, begun_cause}
use Rattle.alm_keeper.proofs.CallsLeft.{commit_calls}
use Rattle.alm_keeper.proofs.StorePassing.{begun_commit, refused_phase}
use Rattle.alm_keeper.proofs.StorePacing.{begun_pace, newest_begun}
use Rattle.alm_keeper.proofs.as_store.KeeperStore.begin.Goals as goal

pub returns-clause-cause : goal.returns-clause-cause
returns-clause-cause g c = λ rest first all. begun_cause c.begin.result c.args.self.now c.args.batch.now c.begin.ensures.answer rest first all

pub returns-clause-begun : goal.returns-clause-begun
returns-clause-begun g c =
    let old = c.args.self.now in
    let new = c.begin.new.self in
    let result = c.begin.result in
    let e = c.begin.ensures in
    let version = old.stored.version in
    let entries = c.args.batch.now.entries in
    let asked = accepted_asked version entries in
    begun_commit old new result asked (accepted_of entries) c.args.batch.now (asked_accepted version entries) e.answer e.begins
    (begun_admitted result (phase_of old.stage old.work) old.stored.plant c.args.batch.now e.answer) (commit_calls result asked old new e.begins)

pub returns-clause-refused : goal.returns-clause-refused
returns-clause-refused g c = λ rest. refused_phase c.args.self.now c.begin.new.self c.begin.result (accepted_asked c.args.self.now.stored.version c.args.batch.now.entries) c.begin.ensures.begins rest

pub returns-clause-pace : goal.returns-clause-pace
returns-clause-pace g c = λ rest.
    let i = c.images.ensures in
    begun_pace c.args.self.now c.begin.new.self c.begin.result (accepted_asked c.args.self.now.stored.version c.args.batch.now.entries) i.order.copies.0 i.order.copies.1 c.begin.ensures.begins rest

pub returns-clause-standing : goal.returns-clause-standing
returns-clause-standing g c = (search rules, newest_begun c.args.self.now c.begin.new.self c.begin.result (accepted_asked c.args.self.now.stored.version c.args.batch.now.entries) c.begin.ensures.begins)
