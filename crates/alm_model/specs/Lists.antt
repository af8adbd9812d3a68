-- Lists of alarms: each is a filter of the alarms, in an order.
use Rattle.std.specs.Prelude.{ℕ, ◌+◌, List, [], ◌∷◌, Bool, true, false, ◌&&◌, Option, Some, None, is_some, unwrap_or, slice_get, nat_le, nat_lt, ◌==◌, ◌%◌, length, filter}
use Rattle.std.specs.List.{range_with_len}
use Rattle.alm_lists.specs.Orders.{in_order}
use Rattle.alm_types.specs.declared.attr.Attr.{Attr}
use Rattle.alm_state.specs.Rows.{State, is_annunciated}
use Rattle.alm_model.specs.Plant.{Panel, Condensed}
use Rattle.alm_model.specs.declared.list.List.{List as Choice}
use Rattle.alm_model.specs.declared.list.List.TheVariants.{Priority, Area, Wheel, Stale, Chatter}

-- a test of an alarm, false if there is no such alarm
abbrev pub passes : (Attr → State → Bool) → Option Attr → Option State → Bool
passes test (Some a) (Some s) = test a s
passes test _ _ = false

-- whether alarm i passes a test
abbrev pub is_one : (Attr → State → Bool) → List Attr → List State → ℕ → Bool
is_one test attrs rows i = passes test (slice_get attrs i) (slice_get rows i)

-- the alarms that pass a test, by number
abbrev pub alarms : (Attr → State → Bool) → List Attr → List State → List ℕ
alarms test attrs rows = filter (is_one test attrs rows) (range_with_len 0 (length rows))

-- a key of an alarm, 0 if there is no such alarm
abbrev pub key_of : (State → ℕ) → Option State → ℕ
key_of key (Some s) = key s
key_of key None = 0

-- the alarms that pass a test, in the order of a key, then by number
abbrev pub alarms_by : (State → ℕ) → (Attr → State → Bool) → List Attr → List State → List ℕ
alarms_by key test attrs rows = in_order (λ i. key_of key (slice_get rows i)) (alarms test attrs rows)

-- when an alarm was annunciated or shelved
abbrev pub stamp : State → ℕ
stamp s = s.stamp

-- the stamp of an alarm, 0 if there is no such alarm
abbrev pub stamp_of : Panel → ℕ → ℕ
stamp_of p i = key_of stamp (slice_get p.rows i)

-- when a shelving ends; 0 without one
abbrev pub deadline : State → ℕ
deadline s = unwrap_or s.shelved_until 0

-- the number of slots of the wheel, which holds the shelved alarms
abbrev pub wheel_slots : ℕ
wheel_slots = 256

-- the alarms of a list, the measures aside
abbrev pub stands_in : Choice → Attr → State → Bool
stands_in (Priority n) a s = is_annunciated s.core && (a.priority == n)
stands_in (Area n) a s = is_annunciated s.core && (a.area == n)
stands_in (Wheel n) a s = is_some s.shelved_until && (deadline s % wheel_slots == n)
stands_in Stale a s = is_annunciated s.core
stands_in Chatter a s = true

-- the shelvings that have ended by a moment
abbrev pub is_due : ℕ → Attr → State → Bool
is_due t a s = is_some s.shelved_until && nat_le (deadline s) t

abbrev pub due : ℕ → Panel → List ℕ
due t p = alarms_by deadline (is_due t) p.attrs p.rows

-- the last moments of an alarm
abbrev pub moments_in : Option (List ℕ) → List ℕ
moments_in None = []
moments_in (Some moments) = moments

-- the last annunciation was a day ago or earlier
abbrev pub is_old : ℕ → List ℕ → Bool
is_old now [] = false
is_old now (m ∷ ms) = nat_le (m + 86400) now

-- three annunciations came within the last minute
abbrev pub is_frequent : ℕ → List ℕ → Bool
is_frequent now moments = nat_le 3 (length (filter (λ m. nat_lt now (m + 60)) moments))

-- the alarms of a list whose last moments pass a test, by number
abbrev pub measured_alarms : (List ℕ → Bool) → Choice → Condensed → List ℕ
measured_alarms test list q = filter (λ i. test (moments_in (slice_get q.kept.moments i))) (alarms (stands_in list) q.panel.attrs q.panel.rows)

-- a list: by stamp, and those of the measures by number
abbrev pub list_of : Choice → Condensed → List ℕ
list_of Stale q = measured_alarms (is_old q.panel.now) Stale q
list_of Chatter q = measured_alarms (is_frequent q.panel.now) Chatter q
list_of list q = alarms_by stamp (stands_in list) q.panel.attrs q.panel.rows

-- which lists there are
abbrev pub exists : Choice → Condensed → Bool
exists (Priority n) q = nat_le 1 n && nat_le n 4
exists (Area n) q = nat_lt n (length q.floods)
exists (Wheel n) q = nat_lt n wheel_slots
exists Stale q = true
exists Chatter q = true
