-- The numbers that bound a plant, its batches and its slots.
use Rattle.std.specs.Prelude.{ℕ, ◌^◌}

-- the alarms of a plant, and its areas
abbrev pub most_alarms : ℕ
most_alarms = 16384

abbrev pub most_areas : ℕ
most_areas = 64

-- the actions of a plant's life
abbrev pub most_actions : ℕ
most_actions = 2 ^ 48

-- the requests of a batch
abbrev pub most_entries : ℕ
most_entries = 256

-- the slots of a server, and how many requests of one may be unanswered
abbrev pub slot_count : ℕ
slot_count = 18

abbrev pub most_out : ℕ
most_out = 64
