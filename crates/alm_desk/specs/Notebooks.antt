-- For the proofs.
-- The moment that a desk keeps.
use Rattle.std.specs.Prelude.{ℕ}
use Rattle.alm_types.specs.declared.action.Action.{Action}
use Rattle.alm_types.specs.declared.action.Action.TheVariants.{Clock}

-- the clock's actions alone change it
abbrev pub moment_after : ℕ → Action → ℕ
moment_after now (Clock t) = t
moment_after now _ = now
