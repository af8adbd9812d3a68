use Rattle.std.proofs.Common.{refl, arith}
use Rattle.alm_sum.specs.Crc.{shifts}
use Rattle.alm_sum.proofs.Shifts.{remainders, looked_up}
use Rattle.alm_sum.proofs.tables.table_16.shifted_16.Goals as goal

pub returns : goal.returns
unfolding shifts remainders
returns c = looked_up 16 _ c.args.byte (omega (arith, c.ranges.byte.fits)) refl
