use Rattle.std.proofs.Common.{refl}
use Rattle.alm_sum.specs.Crc.{shifts}
use Rattle.alm_sum.proofs.laws.known_checksums.Goals as goal

pub returns-clause-none : goal.returns-clause-none
unfolding shifts
returns-clause-none c = refl

pub returns-clause-digits : goal.returns-clause-digits
unfolding shifts
returns-clause-digits c = refl

pub returns-clause-zeros : goal.returns-clause-zeros
unfolding shifts
returns-clause-zeros c = refl

pub returns-clause-ones : goal.returns-clause-ones
unfolding shifts
returns-clause-ones c = refl

pub returns-clause-rising : goal.returns-clause-rising
unfolding shifts
returns-clause-rising c = refl

pub returns-clause-falling : goal.returns-clause-falling
unfolding shifts
returns-clause-falling c = refl
