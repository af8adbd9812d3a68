use Rattle.std.proofs.Common.{refl, arith}
use Rattle.alm_sum.specs.Crc.{shifts}
use Rattle.alm_sum.proofs.Shifts.{remainders, looked_up}
use Rattle.alm_sum.proofs.tables.table_32.shifted_32.Goals as goal

pub returns : goal.returns
unfolding shifts remainders
returns c = looked_up 32 _ c.args.byte (omega (arith, c.ranges.byte.fits)) refl
