use Rattle.alm_serve.proofs.Unasked.{nothing_out}
use Rattle.alm_serve.proofs.laws.nothing_goes_out_unasked.Goals as goal

pub returns : goal.returns
returns g c = nothing_out
