use Rattle.std.proofs.Common.{◌+◌, refl}
use Rattle.left_right.specs.Sides.{view}
use Rattle.alm_shared.proofs.gone_count.GoneCount.enter.Goals as goal

pub enter_as-requires : goal.enter_as-requires
enter_as-requires g c = λ shown views kept at. (record { looks = (view c.args.reader.place).looks + 1; seen = shown.told.prefix }, tt, (refl, refl))
