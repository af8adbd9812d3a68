-- Attributes of which one has changed.
use Rattle.std.specs.Prelude.{ℕ, ℤ, Bool, true, false, T, ◌&&◌, nat_le}
use Rattle.alm_types.specs.Readings.{is_reading}
use Rattle.alm_types.specs.Limits.{priority_in, reading_in}
use Rattle.alm_types.specs.declared.attr.Attr.{Attr}

-- one value if a test is passed, else another
abbrev pub where_passed : {A : Type 0} → (test : Bool) → (T test → A) → A → A
where_passed true given other = given tt
where_passed false given other = other

-- the same attributes with another priority, if it is 1 to 4
abbrev pub with_priority : ℕ → Attr → Attr
with_priority n a = where_passed (nat_le 1 n && nat_le n 4) (λ h. record a { priority = n; priority_limits = priority_in n h }) a

-- the same with another setpoint, if it is a reading
abbrev pub with_setpoint : ℤ → Attr → Attr
with_setpoint v a = where_passed (is_reading v) (λ h. record a { setpoint = v; setpoint_range = reading_in v h }) a
