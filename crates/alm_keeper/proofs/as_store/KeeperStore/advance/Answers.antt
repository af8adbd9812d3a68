use Rattle.alm_keeper.proofs.CallsLeft.{works, open_work, will_take_on, takes_kept}
use Rattle.alm_keeper.proofs.StorePassing.{advanced}
use Rattle.alm_keeper.proofs.StoreCalls.{makes_one, stays_exhausted}
use Rattle.alm_keeper.proofs.StorePacing.{newest_stays, goes_on}
use Rattle.alm_keeper.proofs.as_store.KeeperStore.advance.Goals as goal

pub advance-requires : goal.advance-requires
advance-requires g c = record { working = works c.args.self.now.stage c.args.self.now.work c.requires }

pub returns-clause-advanced : goal.returns-clause-advanced
returns-clause-advanced g c =
    let k = c.args.self.now in
    let at = works k.stage k.work c.requires in
    advanced k c.advance.new.self at c.advance.result (λ is. (c.images.ensures.order.runs at is).0) c.advance.ensures.advances

pub returns-clause-will_take : goal.returns-clause-will_take
returns-clause-will_take g c = λ not actions room.
    let k = c.args.self.now in
    will_take_on c.advance.result k c.advance.new.self (works k.stage k.work c.requires) c.advance.ensures.advances actions room

pub returns-clause-takes : goal.returns-clause-takes
returns-clause-takes g c = λ copies not actions room.
    let k = c.args.self.now in
    takes_kept c.advance.result k c.advance.new.self copies (c.images.ensures.order.runs (works k.stage k.work c.requires) (open_work k.stage k.work copies)).1 c.advance.ensures.advances not actions room

pub returns-clause-pace : goal.returns-clause-pace
returns-clause-pace g c =
    let k = c.args.self.now in
    let i = c.images.ensures in
    goes_on k c.advance.new.self c.advance.result (works k.stage k.work c.requires) i.order.lengths.0 i.order.frames i.order.pieces c.advance.ensures.advances

pub returns-clause-one : goal.returns-clause-one
returns-clause-one g c = makes_one g.D.Disk c.args.self.now c.advance.new.self.disk c.advance.result c.advance.ensures.call

pub returns-clause-standing : goal.returns-clause-standing
returns-clause-standing g c =
    let k = c.args.self.now in
    ((λ least. stays_exhausted k c.advance.new.self c.advance.result c.advance.ensures.advances least), newest_stays k c.advance.new.self c.advance.result c.advance.ensures.advances)
