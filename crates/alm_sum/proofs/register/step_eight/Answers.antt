use Rattle.std.proofs.Common.{length, sym, ◌∙◌, ◌≡◌, arith}
use Rattle.std.specs.Prelude.{bit_xor}
use Rattle.std.specs.Int.Bits.{xor_zero_l}
use Rattle.alm_sum.proofs.Eights.{eight_more}
use Rattle.alm_sum.proofs.register.step_eight.Goals as goal

pub returns : goal.returns
returns c =
    let long : length c.args.bytes ≡ 8 = omega arith in
    let last = c.shifted_8.ensures ∙ sym (xor_zero_l _) in
    (λ i. bit_xor (bit_xor (bit_xor (bit_xor (bit_xor (bit_xor (bit_xor (last i) (c.shifted_16.ensures i)) (c.shifted_24.ensures i)) (c.shifted_32.ensures i)) (c.shifted_40.ensures i)) (c.shifted_48.ensures i)) (c.shifted_56.ensures i)) (c.shifted_64.ensures i))
    ∙ eight_more c.args.register c.to_le_bytes-first.result c.args.bytes (omega (arith, c.ranges.register.fits)) c.to_le_bytes-first.ensures long
