use Rattle.std.proofs.Common.{sym, ap, ◌∙◌}
use Rattle.std.specs.Prelude.{bit_xor}
use Rattle.alm_sum.specs.Crc.{register_after_bytes}
use Rattle.alm_sum.proofs.Shifts.{bytes_more}
use Rattle.alm_codec.proofs.sums.sum_of.Goals as goal

pub returns : goal.returns
returns c =
    ap (λ r. bit_xor r 4294967295) (c.register_after-2.ensures ∙ ap (λ r. register_after_bytes r c.args.back.now) c.register_after.ensures ∙ sym (bytes_more 4294967295 c.args.front.now c.args.back.now))
