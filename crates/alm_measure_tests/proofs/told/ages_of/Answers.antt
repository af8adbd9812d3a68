use Rattle.std.proofs.Common.{sum, subst, sym, ◌≤◌, List, ℕ, refl}
use Rattle.alm_measure_tests.proofs.Few.{all-none, few-ages}
use Rattle.alm_measure_tests.proofs.told.ages_of.Goals as goal

pub loop-age-init : goal.loop-age-init
loop-age-init g c = record { small = all-none 600; seconds = refl }

pub returns : goal.returns
returns g c =
    let P : List ℕ → Type 0 = λ counts. sum counts ≤ 600000 in
    subst P (sym c.of.ensures) (few-ages c.loop-age.counts c.loop-age.invariant.small c.loop-age.invariant.seconds)
