-- What a slot may ask for.
use Rattle.std.specs.Prelude.{ℕ, if◌then◌else◌, ◌==◌}
use Rattle.alm_types.specs.declared.role.Role.{Role}
use Rattle.alm_types.specs.declared.role.Role.TheVariants.{Console, Feed, Clock}

-- slots 0 to 15 are consoles, 16 is the feed, 17 the clock
abbrev pub role_of : ℕ → Role
role_of slot = if slot == 16 then Feed else if slot == 17 then Clock else Console
