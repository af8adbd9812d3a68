-- What the steps of a run leave as they are.
use Rattle.std.specs.Prelude.{◌≡◌, ℕ, List}
use Rattle.alm_board.specs.declared.board.Board
use Rattle.alm_disk.specs.declared.disk.Disk
use Rattle.alm_moments.specs.declared.run_id.RunId
use Rattle.alm_rings.specs.declared.console.Console.{Console}
use Rattle.alm_rings.specs.declared.inbox.Inbox.{Inbox}
use Rattle.alm_rings.specs.declared.seal_ends.SealEnds.{SealEnds}
use Rattle.alm_rings.specs.declared.told.Told
use Rattle.alm_rings.specs.Batches.{SameFetchEnds, SameSealEnds}
use Rattle.alm_rings.specs.Placed.{SameOutboxAt, outbox_at}
use Rattle.alm_seq.specs.Sequences.{SameInboxes}
use Rattle.alm_store.specs.declared.store.Store
use Rattle.alm_threads.specs.declared.recorded_flusher.RecordedFlusher.{RecordedFlusher}
use Rattle.alm_threads.specs.Same.{AllIdle, AllSame}

module _ {K T B J D : Type 0} {k : Store.Ghosts K D} {d : Disk.Ghosts D} {t : Told.Ghosts T} {b : Board.Ghosts B T} {j : RunId.Ghosts J} where
  -- a flusher of the same run, with the same ends and a board of the same base plant
  abbrev pub KeepsFlusher : (old new : RecordedFlusher K T B J D k d t b j) → Type 0
  KeepsFlusher old new = SameFetchEnds old.flusher.fetch new.flusher.fetch × ((s : ℕ) → SameOutboxAt (outbox_at s old.flusher.outboxes.items) (outbox_at s new.flusher.outboxes.items))
      × (b.base new.flusher.board ≡ b.base old.flusher.board) × (new.first ≡ old.first)

module _ {T : Type 0} {t : Told.Ghosts T} where
  -- the same consoles, at which nothing was sent or received, and the same ends of the sequencer
  abbrev pub KeepsEnds : (before after : List (Console T t)) → (old new : List Inbox) → SealEnds → SealEnds → Type 0
  KeepsEnds before after old new ends later = AllSame before after × AllIdle before after × SameInboxes old new × SameSealEnds ends later
