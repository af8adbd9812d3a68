-- For the proofs.
-- Lists that a measure picks out.
use Rattle.std.specs.Prelude.{ℕ, List, Bool, true, filter, slice_get, ◌&&◌}
use Rattle.alm_types.specs.declared.attr.Attr.{Attr}
use Rattle.alm_state.specs.Rows.{State}
use Rattle.alm_model.specs.Lists.{alarms, stands_in, is_one, is_old, is_frequent, moments_in}
use Rattle.alm_model.specs.declared.list.List.{List as Choice}
use Rattle.alm_model.specs.declared.list.List.TheVariants.{Priority, Area, Wheel, Stale, Chatter}

-- what a list asks of an alarm's last moments
abbrev pub measure_of : Choice → ℕ → List ℕ → Bool
measure_of (Priority n) now moments = true
measure_of (Area n) now moments = true
measure_of (Wheel n) now moments = true
measure_of Stale now moments = is_old now moments
measure_of Chatter now moments = is_frequent now moments

-- whether alarm i is in a list, by its row and its last moments
abbrev pub is_measured : Choice → ℕ → List Attr → List State → List (List ℕ) → ℕ → Bool
is_measured list now attrs rows moments i = is_one (stands_in list) attrs rows i && measure_of list now (moments_in (slice_get moments i))

-- the alarms of a list, by number
abbrev pub measured_by : Choice → ℕ → List Attr → List State → List (List ℕ) → List ℕ
measured_by list now attrs rows moments = filter (λ i. measure_of list now (moments_in (slice_get moments i))) (alarms (stands_in list) attrs rows)
