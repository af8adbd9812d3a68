use Rattle.std.proofs.Common.{refl, sym, ◌∙◌, true≢false}
use Rattle.alm_keeper.specs.declared.stage.Stage.TheVariants.{Idle}
use Rattle.alm_keeper.proofs.Order.{Stores, closed_by, ordered_by}
use Rattle.alm_keeper.proofs.book.Book.close.Goals as goal

pub returns-clause-in_order : goal.returns-clause-in_order
returns-clause-in_order c =
    let b = c.args.self.now in
    let m = c.store.new.self in
    let s : Stores b m = (c.store.ensures.account, c.store.ensures.same) in
    ordered_by b m (record m { stage = Idle }) c.requires.in_order c.requires.last c.requires.commit s (closed_by b m c.requires.commit c.requires.copying s) refl refl refl refl (λ on. absurd (true≢false (sym on ∙ c.requires.copying)))

pub returns-clause-closes : goal.returns-clause-closes
returns-clause-closes c = closed_by c.args.self.now c.store.new.self c.requires.commit c.requires.copying (c.store.ensures.account, c.store.ensures.same)
