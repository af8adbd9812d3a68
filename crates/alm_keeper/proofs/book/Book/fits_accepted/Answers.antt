use Rattle.std.proofs.Common.{refl, ap, arith, length}
use Rattle.alm_model.specs.Judging.{accepted_of}
use Rattle.alm_keeper.specs.Keeping.{account}
use Rattle.alm_keeper.specs.Stand.{FitsFrame}
use Rattle.alm_keeper.proofs.Tried.{accepted_few}
use Rattle.alm_keeper.proofs.book.Book.fits_accepted.Goals as goal

pub returns-then-fits : goal.returns-then-fits
returns-then-fits c =
    let here : FitsFrame (account c.args.self.now) (length c.entries.result.now) = c.if-fits.ensures.0 refl in
    let few = accepted_few c.args.batch.now.entries in
    let fits : FitsFrame (account c.args.self.now) (length (accepted_of c.args.batch.now.entries)) = omega (arith, here, few, ap length c.entries.ensures.entries) in
    (λ _. fits, λ _. c.if-fits.true)
