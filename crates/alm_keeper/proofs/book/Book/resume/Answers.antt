use Rattle.std.proofs.Common.{◌≡◌, ◌+◌, ℕ, length, arith, refl, ap}
use Rattle.alm_keeper.specs.declared.book.Book.{Book}
use Rattle.alm_keeper.specs.declared.stage.Stage.TheVariants.{Body}
use Rattle.alm_keeper.specs.declared.stage.Work.TheVariants.{Checkpoint}
use Rattle.alm_keeper.proofs.Order.{Stores, grown_by, resumed_by, ordered_by}
use Rattle.alm_keeper.proofs.book.Book.resume.Goals as goal

pub returns-clause-closes : goal.returns-clause-closes
returns-clause-closes c =
    let b = c.args.self.now in
    let m = c.store.new.self in
    let s : Stores b m = (c.store.ensures.account, c.store.ensures.same) in
    let new : Book = record m { stage = Body; work = Checkpoint; buffer = c.append_frame.new.buffer; run = m.run + c.frame_len.result } in
    let first : c.count-first.result + 1 ≡ b.stored.panel.count + 1 = ap (λ (n : ℕ). n + 1) c.count-first.ensures in
    resumed_by b m new c.requires.copying s refl refl refl (grown_by b m new s c.newer.result c.deref.result.now (c.count-first.result + 1) c.newer.ensures c.deref.ensures.value first c.append_frame.ensures.text (ap (λ (n : ℕ). m.run + n) c.frame_len.ensures))

pub returns-clause-in_order : goal.returns-clause-in_order
returns-clause-in_order c =
    let b = c.args.self.now in
    let m = c.store.new.self in
    let s : Stores b m = (c.store.ensures.account, c.store.ensures.same) in
    let new : Book = record m { stage = Body; work = Checkpoint; buffer = c.append_frame.new.buffer; run = m.run + c.frame_len.result } in
    let first : c.count-first.result + 1 ≡ b.stored.panel.count + 1 = ap (λ (n : ℕ). n + 1) c.count-first.ensures in
    ordered_by b m new c.requires.in_order c.requires.last c.requires.commit s
    (resumed_by b m new c.requires.copying s refl refl refl (grown_by b m new s c.newer.result c.deref.result.now (c.count-first.result + 1) c.newer.ensures c.deref.ensures.value first c.append_frame.ensures.text (ap (λ (n : ℕ). m.run + n) c.frame_len.ensures))) refl refl refl c.append_frame.ensures.room (λ on. omega (arith, c.append_frame.ensures.long, ap length c.deref.ensures.value, c.frame_len.ensures))
