-- The reads of a desk.
use Rattle.std.specs.Prelude.{◌≡◌, ◌⊎◌, ◌+◌, ◌-◌, ◌^◌, ℕ, min, List, [], Bool, true, false, Option, Result, Ok, Err}
use Rattle.std.specs.Io.KnownBytes.{Consumes, IsAtEnd}
use Rattle.alm_types.specs.Counts.{one_more}
use Rattle.alm_desk.specs.Answers.{DeskState}
use Rattle.alm_desk.specs.DeskLines.{AnswersInput, IsPrinted, BreaksOffLines, lines_of}
use Rattle.alm_desk.specs.Desks.{Desk}
use Rattle.alm_desk.specs.declared.counted_reader.CountedReader.{CountedReader}
use Rattle.alm_desk.specs.declared.counted_writer.CountedWriter.{CountedWriter}
use Rattle.alm_desk.specs.declared.run_fault.RunFault.{RunFault}
use Rattle.alm_desk.specs.declared.run_fault.RunFault.TheVariants.{Read, Write}

-- some bytes were read and answered; if no more come the input is at its end
pub record IsReaderTurn (more : Bool) (before : DeskState) (held : List ℕ) (input : Option (List ℕ)) (old : Option (List ℕ)) (later : DeskState)
    (holds : List ℕ) (rest : Option (List ℕ)) (new : Option (List ℕ)) : Type 0 where
  pub bytes : List ℕ
  pub read : Consumes input rest bytes
  pub answered : IsPrinted before held bytes old later holds new
  pub ended : more ≡ false → IsAtEnd rest

-- what was read is answered, and no more comes of it
pub record IsPrintedSoFar (before : DeskState) (input old : Option (List ℕ)) (later : DeskState) (rest new : Option (List ℕ)) : Type 0 where
  pub bytes : List ℕ
  pub read : Consumes input rest bytes
  pub holds : List ℕ
  pub answered : IsPrinted before [] bytes old later holds new

-- some bytes were read, and the writer fails in the answers to them
pub record IsBroken (before : DeskState) (held : List ℕ) (input old : Option (List ℕ)) (later : DeskState) (rest new : Option (List ℕ))
    : Type 0 where
  pub bytes : List ℕ
  pub read : Consumes input rest bytes
  pub broken : BreaksOffLines before (lines_of held bytes) old later new

-- what a run of an open desk has answered: the whole input, up to its end; else what was read, up to where the writer failed, if it did
abbrev pub RunPrints : Result Unit RunFault → (before : DeskState) → (input old : Option (List ℕ)) → (later : DeskState) → (rest new : Option (List ℕ)) → Type 0
RunPrints (Ok _) before input old later rest new = AnswersInput before input old later new × IsAtEnd rest
RunPrints (Err Read) before input old later rest new = IsPrintedSoFar before input old later rest new
RunPrints (Err Write) before input old later rest new = IsBroken before [] input old later rest new

-- a read failed, or 2^32 of them gave no end
abbrev pub IsUnread : (failed failed_now reads reads_now : ℕ) → Type 0
IsUnread failed failed_now reads reads_now = (failed_now ≡ one_more failed) ⊎ (reads_now ≡ min (reads + 2 ^ 32) (2 ^ 64 - 1))

-- a write failed, or the desk was closed before
abbrev pub IsUnwritten : (closed : Bool) → (failed failed_now : ℕ) → Type 0
IsUnwritten closed failed failed_now = (closed ≡ true) ⊎ (failed_now ≡ one_more failed)

module _ {R W : Type 0} where
  -- what failed in a turn of an open desk: nothing, the reader alone or the writer alone. The last closes the desk
  abbrev pub TurnEnds : Result Bool RunFault → (later : Desk) → (reader read : CountedReader R) → (writer written : CountedWriter W) → Type 0
  TurnEnds (Ok _) later reader read writer written = (later.closed ≡ false) × (read.failed ≡ reader.failed) × (written.failed ≡ writer.failed)
  TurnEnds (Err Read) later reader read writer written = (later.closed ≡ false) × (read.failed ≡ one_more reader.failed) × (written.failed ≡ writer.failed)
  TurnEnds (Err Write) later reader read writer written = (later.closed ≡ true) × (read.failed ≡ reader.failed) × (written.failed ≡ one_more writer.failed)

  -- why a run ends so: nothing failed, the reader alone gave no end, or there was a failure of the writer alone, which closes the desk
  abbrev pub RunEnds : Result Unit RunFault → (desk later : Desk) → (reader read : CountedReader R) → (writer written : CountedWriter W) → Type 0
  RunEnds (Ok _) desk later reader read writer written =
      (desk.closed ≡ false) × (later.closed ≡ false) × (read.failed ≡ reader.failed) × (written.failed ≡ writer.failed)
  RunEnds (Err Read) desk later reader read writer written =
      (desk.closed ≡ false) × (later.closed ≡ false) × IsUnread reader.failed read.failed reader.reads read.reads × (written.failed ≡ writer.failed)
  RunEnds (Err Write) desk later reader read writer written =
      (later.closed ≡ true) × (read.failed ≡ reader.failed) × IsUnwritten desk.closed writer.failed written.failed
