use Rattle.std.proofs.Common.{◌∙◌, sym, ap, arith, ◌/◌}
use Rattle.std.specs.Prelude.{bit_xor}
use Rattle.alm_sum.proofs.Shifts.{byte_step}
use Rattle.alm_sum.proofs.register.step.Goals as goal

pub returns : goal.returns
returns c = ap (bit_xor (c.args.register / 256)) c.shifted_8.ensures ∙ sym (byte_step c.args.register c.args.byte (omega (arith, c.ranges.byte.fits)))
