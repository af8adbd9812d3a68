-- Which alarms belong to a list.
use Rattle.std.specs.Prelude.{◌≡◌, ◌↔◌, ℕ, ◌+◌, ◌≤◌, ◌%◌, List, ◌∷◌, Bool, true, Some, ◌&&◌, ◌||◌, nat_lt, nat_le, filter, length, slice_get, Contains, ◌<◌}
use Rattle.alm_types.specs.declared.attr.Attr.{Attr}
use Rattle.alm_state.specs.Rows.{State, is_annunciated}
use Rattle.alm_model.specs.Plant.{Condensed}
use Rattle.alm_model.specs.Lists.{list_of}
use Rattle.alm_model.specs.declared.list.List.{List as Choice}
use Rattle.alm_model.specs.declared.list.List.TheVariants.{Priority, Area, Wheel, Stale, Chatter}

-- to that of its priority and to that of its area, if it asks for the operator; to a slot of the wheel, if its shelving ends there
abbrev pub Belongs : Choice → Attr → State → Type 0
Belongs (Priority n) a s = (is_annunciated s.core ≡ true) × (a.priority ≡ n)
Belongs (Area n) a s = (is_annunciated s.core ≡ true) × (a.area ≡ n)
Belongs (Wheel n) a s = (deadline : ℕ) × (s.shelved_until ≡ Some deadline) × (deadline % 256 ≡ n)
Belongs Stale a s = ⊥
Belongs Chatter a s = ⊥

-- a list has just the alarms that belong to it
abbrev pub HasJustThose : Condensed → Choice → List ℕ → Type 0
HasJustThose q list out =
    (i : ℕ) → Contains out i ↔ ((a : Attr) × (s : State) × (slice_get q.panel.attrs i ≡ Some a) × (slice_get q.panel.rows i ≡ Some s) × Belongs list a s)

-- an operator finds it by its priority and by its area
abbrev pub IsFound : Condensed → ℕ → Attr → Type 0
IsFound q i a = Contains (list_of (Priority a.priority) q) i × Contains (list_of (Area a.area) q) i

-- it asks for the operator, and its last annunciation was a day ago or earlier
abbrev pub IsStale : Condensed → ℕ → State → Type 0
IsStale q i s =
    (is_annunciated s.core ≡ true) × (last : ℕ) × (earlier : List ℕ) × (slice_get q.kept.moments i ≡ Some (last ∷ earlier)) × (last + 86400 ≤ q.panel.now)

-- annunciations of the last minute
abbrev pub in_last_minute : ℕ → List ℕ → ℕ
in_last_minute now moments = length (filter (λ m. nat_lt now (m + 60)) moments)

-- an alarm that is stale, and one that had three annunciations or more within the last minute
abbrev pub IsStaleAlarm : Condensed → ℕ → Type 0
IsStaleAlarm q i = (a : Attr) × (s : State) × (slice_get q.panel.attrs i ≡ Some a) × (slice_get q.panel.rows i ≡ Some s) × IsStale q i s

abbrev pub IsChatteringAlarm : Condensed → ℕ → Type 0
IsChatteringAlarm q i = (moments : List ℕ) × (slice_get q.kept.moments i ≡ Some moments) × (3 ≤ in_last_minute q.panel.now moments)

-- an area is flooded: its window is above 10, or it was flooded and the window isn't below 5
abbrev pub is_flooded_by : ℕ → Bool → Bool
is_flooded_by window before = nat_lt 10 window || before && nat_le 5 window

-- an alarm that asks for the operator
abbrev pub asks_for_operator : Attr → State → Bool
asks_for_operator a s = is_annunciated s.core

-- of two alarms that ask for the operator, the one with the smaller stamp has the earlier last annunciation, or one of the same moment
abbrev pub IsChronological : Condensed → Type 0
IsChronological q =
    (i j : ℕ) (s u : State) (m n : ℕ) (ms ns : List ℕ) → slice_get q.panel.rows i ≡ Some s → slice_get q.panel.rows j ≡ Some u
    → slice_get q.kept.moments i ≡ Some (m ∷ ms) → slice_get q.kept.moments j ≡ Some (n ∷ ns)
    → is_annunciated s.core ≡ true → is_annunciated u.core ≡ true → s.stamp < u.stamp → m ≤ n
