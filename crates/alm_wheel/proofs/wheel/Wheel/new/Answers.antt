use Rattle.std.proofs.Common.{◌≡◌, rules, replicate}
use Rattle.std.specs.Prelude.{None}
use Rattle.alm_wheel.proofs.Standing.{wheel-new}
use Rattle.alm_wheel.proofs.wheel.Wheel.new.Goals as goal

pub invariant_of-result : goal.invariant_of-result
invariant_of-result c =
    let none : c.in_ok-vec.field-0.items ≡ replicate c.args.nodes None = search rules in
    rw none (wheel-new c.args.nodes c.in_ok-new.field-0 c.in_ok-new.ensures)
