use Rattle.alm_keeper.specs.Keeping.{account}
use Rattle.alm_keeper.specs.Stand.{saying}
use Rattle.alm_keeper.proofs.Standings.{opened_keeps, ready_room}
use Rattle.alm_keeper.proofs.keeper.open_store.Goals as goal

pub invariant_of-result : goal.invariant_of-result
invariant_of-result g c =
    let state = g.D.Disk.state c.open_book.new.disk in (
      c.in-Ok.ensures.in_order,
      c.in-Ok.ensures.fits,
      λ honest. ∣ opened_keeps c.in-Ok.book state c.in-Ok.ensures.idle.0 c.in-Ok.ensures.idle.1 (c.in-Ok.ensures.settled (c.open_book.ensures.honest honest)) (c.in-Ok.ensures.opens honest) ∣₁,
    )

pub returns-in-Ok-clause-stands : goal.returns-in-Ok-clause-stands
returns-in-Ok-clause-stands g c = λ honest. let opened = c.in-Ok.ensures.opens honest in ready_room (saying opened.0 (account c.in-Ok.book)) (g.D.Disk.state c.open_book.new.disk).bytes opened.1
