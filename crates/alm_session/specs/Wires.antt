-- What a call on a wire does.
use Rattle.std.specs.Prelude.{◌≡◌, ℕ, ◌≤◌, List, [], ◌++◌, Option, length, take, drop}
use Rattle.std.specs.Io.KnownBytes.{Consumes, IsAtEnd}
use Rattle.alm_types.specs.Counts.{one_more}
use Rattle.alm_session.specs.Intakes.{Untaken}
use Rattle.alm_session.specs.declared.wire.ReadGave.{ReadGave}
use Rattle.alm_session.specs.declared.wire.ReadGave.TheVariants as read
use Rattle.alm_session.specs.declared.wire.WriteTook.{WriteTook}
use Rattle.alm_session.specs.declared.wire.WriteTook.TheVariants as write
use Rattle.alm_session.specs.declared.output.Sent.{Sent}
use Rattle.alm_session.specs.declared.output.Sent.TheVariants as sent
use Rattle.alm_session.specs.Outputs.{Unwritten}

-- how many reads and writes were blocked, and how many calls failed, each up to the greatest number
pub record Counts : Type 0 where
  pub blocked_reads : ℕ
  pub blocked_writes : ℕ
  pub failed : ℕ

abbrev pub blocked_read : Counts → Counts
blocked_read c = record c { blocked_reads = one_more c.blocked_reads }

abbrev pub blocked_write : Counts → Counts
blocked_write c = record c { blocked_writes = one_more c.blocked_writes }

abbrev pub failed_call : Counts → Counts
failed_call c = record c { failed = one_more c.failed }

-- what the reads of a wire have given, and what they will give, if that is known
pub record WireInput : Type 0 where
  pub came : List ℕ
  pub coming : Option (List ℕ)

-- reads gave these bytes
abbrev pub ReadsGive : WireInput → WireInput → List ℕ → Type 0
ReadsGive old new bytes = (new.came ≡ old.came ++ bytes) × Consumes old.coming new.coming bytes

-- a read returns at least one byte and no more than there is room for; what it was blocked or failed by is counted
abbrev pub ReadCounts : ReadGave → ℕ → Counts → Counts → Type 0
ReadCounts (read.Got n) room old new = (new ≡ old) × (1 ≤ n) × (n ≤ room)
ReadCounts read.End room old new = new ≡ old
ReadCounts read.Blocked room old new = new ≡ blocked_read old
ReadCounts read.Failed room old new = new ≡ failed_call old

abbrev pub WriteCounts : WriteTook → ℕ → Counts → Counts → Type 0
WriteCounts (write.Wrote n) room old new = (new ≡ old) × (1 ≤ n) × (n ≤ room)
WriteCounts write.Blocked room old new = new ≡ blocked_write old
WriteCounts write.Failed room old new = new ≡ failed_call old

-- what a read returns comes then, and is taken from what will; at the end no byte is left
abbrev pub ReadBytes : ReadGave → List ℕ → WireInput → WireInput → Type 0
ReadBytes (read.Got n) buffer old new = ReadsGive old new (take n buffer)
ReadBytes read.End buffer old new = (new ≡ old) × IsAtEnd new.coming
ReadBytes read.Blocked buffer old new = new ≡ old
ReadBytes read.Failed buffer old new = new ≡ old

abbrev pub WriteBytes : WriteTook → List ℕ → List ℕ → List ℕ → Type 0
WriteBytes (write.Wrote n) bytes old new = new ≡ old ++ take n bytes
WriteBytes write.Blocked bytes old new = new ≡ old
WriteBytes write.Failed bytes old new = new ≡ old

-- what was read is after what was held; else nothing changed
abbrev pub ReadGives : ReadGave → Untaken → Untaken → WireInput → WireInput → Type 0
ReadGives (read.Got n) before later old new = (length later.rest ≡ n) × ReadsGive old new later.rest × (later ≡ record before { rest = later.rest })
ReadGives read.End before later old new = (later ≡ before) × (new ≡ old) × IsAtEnd new.coming
ReadGives read.Blocked before later old new = (later ≡ before) × (new ≡ old)
ReadGives read.Failed before later old new = (later ≡ before) × (new ≡ old)

-- what was written is a prefix of what was left
abbrev pub WritesPrefix : Sent → Unwritten → Unwritten → List ℕ → List ℕ → Type 0
WritesPrefix sent.Nothing before later old new = (before.left ≡ []) × (later.left ≡ []) × (later.used ≡ 0) × (new ≡ old)
WritesPrefix sent.Some before later old new = (later.used ≡ before.used) × ((n : ℕ) × (1 ≤ n) × (n ≤ length before.left) × (later.left ≡ drop n before.left) × (new ≡ old ++ take n before.left))
WritesPrefix sent.Blocked before later old new = (later ≡ before) × (new ≡ old)
WritesPrefix sent.Failed before later old new = (later ≡ before) × (new ≡ old)

abbrev pub SentCounts : Sent → Counts → Counts → Type 0
SentCounts sent.Nothing old new = new ≡ old
SentCounts sent.Some old new = new ≡ old
SentCounts sent.Blocked old new = new ≡ blocked_write old
SentCounts sent.Failed old new = new ≡ failed_call old
