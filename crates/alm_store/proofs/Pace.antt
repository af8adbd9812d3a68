-- What follows from keeping pace.
use Rattle.std.proofs.Common.{ℕ, ◌≤◌, ◌+◌, ◌-◌, ◌*◌, arith}
use Rattle.alm_store.specs.Pace.{longest}

-- if there is room for the longest frame any batch fits
pub room_for : (room segment actions : ℕ) → actions ≤ 256 → segment - room + longest + 1 ≤ segment → 19 + 16 * actions + 1 ≤ room
room_for room segment actions few any = omega (arith, few, any)
