-- The batch that a flusher holds.
use Rattle.std.specs.Prelude.{suc, ◌+◌, List, [], ◌∷◌, take, drop, slice_get, Option, None}
use Rattle.alm_types.specs.declared.action.Action.{Action}
use Rattle.alm_model.specs.Judging.{accepted_of}
use Rattle.alm_types.specs.declared.entry.Entry.{Entry}
use Rattle.alm_types.specs.Batches.{Judged}
use Rattle.alm_flush.specs.declared.held.Held.{Held}
use Rattle.alm_flush.specs.declared.held.Held.TheVariants.{Nothing, Fetched, Failed, Committed, Published}

abbrev pub batches_of : Held → List Judged
batches_of Nothing = []
batches_of (Fetched b) = b ∷ []
batches_of (Failed b) = b ∷ []
batches_of (Committed b) = b ∷ []
batches_of (Published b n) = b ∷ []

-- its entries, if its commit isn't done
abbrev pub waiting_of : Held → List Entry
waiting_of (Fetched b) = b.entries
waiting_of (Failed b) = b.entries
waiting_of held = []

-- the actions whose commit continues
abbrev pub to_commit : Held → List Action
to_commit (Fetched b) = accepted_of b.entries
to_commit held = []

-- if it is done, and they are not published
abbrev pub ready_of : Held → List Entry
ready_of (Committed b) = b.entries
ready_of held = []

-- if it is done
abbrev pub stored_of : Held → List Entry
stored_of Nothing = []
stored_of (Fetched b) = []
stored_of (Failed b) = []
stored_of (Committed b) = b.entries
stored_of (Published b n) = b.entries

-- if they are published
abbrev pub published_entries : Held → List Entry
published_entries Nothing = []
published_entries (Fetched b) = []
published_entries (Failed b) = []
published_entries (Committed b) = []
published_entries (Published b n) = b.entries

-- those whose verdicts are released
abbrev pub released_entries : Held → List Entry
released_entries Nothing = []
released_entries (Fetched b) = []
released_entries (Failed b) = []
released_entries (Committed b) = []
released_entries (Published b n) = take n b.entries

-- the one that is next
abbrev pub next_entry_of : Held → Option Entry
next_entry_of Nothing = None
next_entry_of (Fetched b) = None
next_entry_of (Failed b) = None
next_entry_of (Committed b) = None
next_entry_of (Published b n) = slice_get b.entries n

abbrev pub after_release : Held → Held
after_release (Published b n) = Published b (n + 1)
after_release held = held

-- the accepted actions after the next one
abbrev pub left_of : Held → List Action
left_of (Published b n) = accepted_of (drop (suc n) b.entries)
left_of held = []
