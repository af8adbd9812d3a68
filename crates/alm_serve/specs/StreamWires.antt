-- A stream's wire, as a session has it.
use Rattle.std.specs.Prelude.{◌≡◌, ℕ, false, List, ◌++◌, take, None}
use Rattle.alm_session.specs.Wires.{Counts, WireInput}
use Rattle.alm_session.specs.declared.wire.ReadGave.{ReadGave}
use Rattle.alm_session.specs.declared.wire.ReadGave.TheVariants as read
use Rattle.alm_serve.specs.Http.{begins_as_http}
use Rattle.alm_serve.specs.declared.plain_bytes.PlainBytes.{PlainBytes}
use Rattle.alm_serve.specs.declared.stream_wire.StreamWire.{StreamWire}

-- what came is after what had come, and all of it isn't a request of HTTP as long as reads give bytes. Nothing came in a read that
-- is blocked or fails
abbrev pub Asks : ReadGave → List ℕ → (old new : PlainBytes) → Type 0
Asks (read.Got n) buffer old new = (new.came.bytes ≡ old.came.bytes ++ take n buffer) × (begins_as_http new.came.bytes ≡ false)
Asks read.End buffer old new = (more : List ℕ) × (new.came.bytes ≡ old.came.bytes ++ more)
Asks read.Blocked buffer old new = new ≡ old
Asks read.Failed buffer old new = new ≡ old

module _ {S : Type 0} where
  abbrev pub wire_counts : StreamWire S → Counts
  wire_counts wire = record { blocked_reads = wire.blocked_reads; blocked_writes = wire.blocked_writes; failed = wire.failed }

  abbrev pub wire_input : StreamWire S → WireInput
  wire_input wire = record { came = wire.traffic.came.bytes; coming = None }
