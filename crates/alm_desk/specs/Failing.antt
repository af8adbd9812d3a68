-- A writer fails on the way.
use Rattle.std.specs.Prelude.{◌≡◌, ℕ, List, ◌∷◌, ◌++◌, Option, map}
use Rattle.std.specs.Io.KnownBytes.{Appends}
use Rattle.alm_lines.specs.Written.{IsCutShort}
use Rattle.alm_desk.specs.Answers.{DeskState, SlotLine, AnsweredLine, reply, after_line, replies, after_lines}
use Rattle.alm_desk.specs.Feeding.{line_asked}
use Rattle.alm_desk.specs.declared.hindrance.Hindrance.{Hindrance}

-- a line, with what hindered it
abbrev pub answered_line : SlotLine → Hindrance → AnsweredLine
answered_line s c = record { asked = s; hindrance = c }

-- the reply to a line is cut short; what the line asks is done
pub record IsCutLine (before : DeskState) (s : SlotLine) (old : Option (List ℕ)) (later : DeskState) (new : Option (List ℕ)) : Type 0 where
  pub hindrance : Hindrance
  pub written : IsCutShort old new (reply before (answered_line s hindrance))
  pub standing : later ≡ after_line before (answered_line s hindrance)

-- the first lines are answered, the reply to the next one is cut short, and the others aren't taken up
pub record BreaksOff (before : DeskState) (lines : List SlotLine) (old : Option (List ℕ)) (later : DeskState) (new : Option (List ℕ))
    : Type 0 where
  pub answered : List AnsweredLine
  pub last : SlotLine
  pub others : List SlotLine
  pub all : lines ≡ map line_asked answered ++ last ∷ others
  pub between : Option (List ℕ)
  pub written : Appends old between (replies before answered)
  pub cut : IsCutLine (after_lines before answered) last between later new
