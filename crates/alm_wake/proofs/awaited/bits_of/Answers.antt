use Rattle.std.proofs.Common.{◌<◌, ◌^◌, ◌+◌, arith, rules}
use Rattle.std.proofs.Math.Pow.{pow-lt}
use Rattle.alm_wake.specs.Gatherings.{Awaits}
use Rattle.alm_wake.proofs.Bits.{with_bit-lt, with_bit-says, without_bit-says}
use Rattle.alm_wake.proofs.awaited.bits_of.Goals.{then-awaits, else-awaits}
use Rattle.alm_wake.proofs.awaited.bits_of.Goals as goal

pub loop-slot-preserved : goal.loop-slot-preserved
loop-slot-preserved c =
    let P = Awaits c.args.gathering.now in
    let k = c.loop-slot.slot in
    let n = c.loop-slot.bits in
    let within : k < 18 = c.loop-slot-test.true in
    let low : n < 2 ^ k = c.loop-slot.invariant.low in
    elim c.if-awaits.branch [
      | then-awaits w ↦
          let here : P k = search rules in
          rw w.bits-is (record { low = with_bit-lt n k within low; bits = with_bit-says P n k within here c.loop-slot.invariant.bits })
      | else-awaits w ↦
          let never : P k → ⊥ = search rules in
          let up : 2 ^ k < 2 ^ (k + 1) = pow-lt {i = k} {j = k + 1} (omega arith) in
          rw w.bits-is (record { low = omega arith; bits = without_bit-says P n k low never c.loop-slot.invariant.bits })
    ]
