use Rattle.std.proofs.Common.{◌∙◌, sym, ap, refl, get_or, ℕ, List}
use Rattle.alm_sum.specs.Crc.{register_after_byte}
use Rattle.alm_sum.proofs.Shifts.{byte_more}
use Rattle.alm_sum.proofs.register.register_after.Goals as goal

pub loop-byte-preserved : goal.loop-byte-preserved
loop-byte-preserved c =
    let left : List ℕ = c.loop-eight.left.now in
    let byte : ℕ = get_or left c.loop-byte.byte-index 0 in
    c.step-register.ensures ∙ ap (λ r. register_after_byte r byte) c.loop-byte.invariant
    ∙ sym (byte_more c.loop-eight.register left c.loop-byte.byte-index byte c.loop-byte-test.true refl)
