-- What the desk prints for what it reads.
use Rattle.std.specs.Prelude.{◌≡◌, ◌⊎◌, ℕ, List, [], ◌∷◌, ◌++◌, Option, Some, IfSome, length, map, codes, decimal, nat_lt, if◌then◌else◌}
use Rattle.std.specs.Io.KnownBytes.{Appends, Keeps}
use Rattle.alm_types.specs.declared.refusal.Refusal.{Refusal}
use Rattle.alm_types.specs.declared.refusal.Refusal.TheVariants.{BadLine, LineTooLong}
use Rattle.alm_types.specs.Refusals.{number_of}
use Rattle.alm_lines.specs.Line.{number, cut_at_space, line_of}
use Rattle.alm_lines.specs.Stream.{is_end, held_within, fed_within}
use Rattle.alm_lines.specs.Written.{IsCutShort}
use Rattle.alm_desk.specs.Answers.{DeskState, SlotLine, reply, after_line}
use Rattle.alm_desk.specs.Failing.{IsCutLine}
use Rattle.alm_desk.specs.declared.hindrance.Hindrance.{Hindrance}

-- what is held of the desk's next line: of its bytes 131 count, one more than it may have without its line end
abbrev pub held_at_desk : List ℕ → ℕ → List ℕ
held_at_desk = held_within 131

abbrev pub fed_to_desk : List ℕ → List ℕ → List ℕ
fed_to_desk = fed_within 131

-- the lines that bytes end, if some of the first one is held
abbrev pub lines_of : List ℕ → List ℕ → List (List ℕ)
lines_of held [] = []
lines_of held (b ∷ bytes) = if is_end b then held ∷ lines_of [] bytes else lines_of (held_at_desk held b) bytes

-- what a line of the desk is: not to be read, or a request line at a slot
pub data DeskLine : Type 0 where
  unreadable : Refusal → DeskLine
  at_slot : SlotLine → DeskLine

abbrev pub desk_request : ℕ → List ℕ → DeskLine
desk_request slot rest = at_slot (record { slot = slot; line = line_of rest })

abbrev pub desk_line_at : Option ℕ → Option (List ℕ) → DeskLine
desk_line_at (Some slot) (Some rest) = desk_request slot rest
desk_line_at _ _ = unreadable BadLine

-- the most bytes of a line of the desk, its line end not counted
abbrev pub desk_line_limit : ℕ
desk_line_limit = 130

-- a slot, one space and a request line
abbrev pub desk_line_of : List ℕ → DeskLine
desk_line_of line = if nat_lt desk_line_limit (length line) then unreadable LineTooLong else desk_line_at (number 18 (cut_at_space line).0) (cut_at_space line).1

-- a line that was answered, with what hindered it
pub record AnsweredBytes : Type 0 where
  pub line : List ℕ
  pub hindrance : Hindrance

abbrev pub unreadable_text : Refusal → List ℕ
unreadable_text refusal = codes "? NO " ++ decimal (number_of refusal) ++ codes "\n"

-- the slot, before the reply
abbrev pub head : ℕ → List ℕ
head slot = decimal slot ++ codes " "

abbrev pub desk_reply : DeskState → DeskLine → Hindrance → List ℕ
desk_reply s (unreadable refusal) c = unreadable_text refusal
desk_reply s (at_slot m) c = head m.slot ++ reply s (record { asked = m; hindrance = c })

abbrev pub desk_after : DeskState → DeskLine → Hindrance → DeskState
desk_after s (unreadable refusal) c = s
desk_after s (at_slot m) c = after_line s (record { asked = m; hindrance = c })

-- what is printed for lines, and the state after them
abbrev pub text_printed_for : DeskState → List AnsweredBytes → List ℕ
text_printed_for s [] = []
text_printed_for s (h ∷ hs) = desk_reply s (desk_line_of h.line) h.hindrance ++ text_printed_for (desk_after s (desk_line_of h.line) h.hindrance) hs

abbrev pub stands_after : DeskState → List AnsweredBytes → DeskState
stands_after s [] = s
stands_after s (h ∷ hs) = stands_after (desk_after s (desk_line_of h.line) h.hindrance) hs

abbrev pub line : AnsweredBytes → List ℕ
line h = h.line

-- bytes are answered: what the desk prints for the lines that they end is written
pub record IsPrinted (before : DeskState) (held bytes : List ℕ) (old : Option (List ℕ)) (later : DeskState) (holds : List ℕ)
    (new : Option (List ℕ)) : Type 0 where
  pub answered : List AnsweredBytes
  pub lines : map line answered ≡ lines_of held bytes
  pub written : Appends old new (text_printed_for before answered)
  pub standing : later ≡ stands_after before answered
  pub left : holds ≡ fed_to_desk held bytes

-- the whole of an input is answered; bytes after its last line end are dropped
pub record IsDesk (before : DeskState) (input : List ℕ) (old : Option (List ℕ)) (later : DeskState) (new : Option (List ℕ)) : Type 0 where
  pub answered : List AnsweredBytes
  pub lines : map line answered ≡ lines_of [] input
  pub written : Appends old new (text_printed_for before answered)
  pub standing : later ≡ stands_after before answered

-- the whole of an input is answered, if it is known
abbrev pub AnswersInput : DeskState → (input old : Option (List ℕ)) → DeskState → (new : Option (List ℕ)) → Type 0
AnswersInput before input old later new = IfSome input (λ bytes. IsDesk before bytes old later new)

-- the reply under a slot is cut short; what the line asks is done
pub record IsCutReply (before : DeskState) (m : SlotLine) (old : Option (List ℕ)) (later : DeskState) (new : Option (List ℕ)) : Type 0 where
  pub between : Option (List ℕ)
  pub slot : Appends old between (head m.slot)
  pub reply : IsCutLine before m between later new

-- what is printed for an entry is cut short: within a refusal or the slot, and nothing is done, or within the reply
abbrev pub IsCutDeskLine : DeskState → DeskLine → Option (List ℕ) → DeskState → Option (List ℕ) → Type 0
IsCutDeskLine before (unreadable refusal) old later new = IsCutShort old new (unreadable_text refusal) × (later ≡ before)
IsCutDeskLine before (at_slot m) old later new = (IsCutShort old new (head m.slot) × (later ≡ before)) ⊎ IsCutReply before m old later new

-- the writer fails in the next line, or, if none is left, as it flushes what was written
abbrev pub IsCutIn : List (List ℕ) → DeskState → Option (List ℕ) → DeskState → Option (List ℕ) → Type 0
IsCutIn [] s old later new = (later ≡ s) × Keeps old new
IsCutIn (next ∷ others) s old later new = IsCutDeskLine s (desk_line_of next) old later new

-- the first lines are answered, and then the writer fails
pub record BreaksOffLines (before : DeskState) (lines : List (List ℕ)) (old : Option (List ℕ)) (later : DeskState) (new : Option (List ℕ))
    : Type 0 where
  pub answered : List AnsweredBytes
  pub others : List (List ℕ)
  pub all : lines ≡ map line answered ++ others
  pub between : Option (List ℕ)
  pub written : Appends old between (text_printed_for before answered)
  pub cut : IsCutIn others (stands_after before answered) between later new
