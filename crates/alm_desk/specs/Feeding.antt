-- What bytes make of a desk.
use Rattle.std.specs.Prelude.{◌≡◌, ℕ, List, [], ◌∷◌, ◌++◌, Option, map, if◌then◌else◌}
use Rattle.std.specs.Io.KnownBytes.{Appends}
use Rattle.alm_lines.specs.Line.{line_of}
use Rattle.alm_lines.specs.Stream.{is_end, held_after, held_behind}
use Rattle.alm_desk.specs.Answers.{DeskState, SlotLine, AnsweredLine, replies, after_lines}

-- the lines that bytes end at a slot, if some of the first one is held
abbrev pub lines_at : ℕ → List ℕ → List ℕ → List SlotLine
lines_at slot held [] = []
lines_at slot held (b ∷ bytes) =
    if is_end b then record { slot = slot; line = line_of held } ∷ lines_at slot [] bytes else lines_at slot (held_after held b) bytes

-- a line that was answered
abbrev pub line_asked : AnsweredLine → SlotLine
line_asked m = m.asked

-- bytes at a slot: the replies to the lines that they end are written
pub record IsFedAt (slot : ℕ) (before : DeskState) (held bytes : List ℕ) (old : Option (List ℕ)) (later : DeskState) (holds : List ℕ)
    (new : Option (List ℕ)) : Type 0 where
  pub answered : List AnsweredLine
  pub lines : map line_asked answered ≡ lines_at slot held bytes
  pub written : Appends old new (replies before answered)
  pub standing : later ≡ after_lines before answered
  pub left : holds ≡ held_behind held bytes

-- on the way: what was answered, and the lines of the rest
pub record FeedsOn (slot : ℕ) (before : DeskState) (held bytes : List ℕ) (old : Option (List ℕ)) (later : DeskState) (holds rest : List ℕ)
    (new : Option (List ℕ)) : Type 0 where
  pub answered : List AnsweredLine
  pub lines : map line_asked answered ++ lines_at slot holds rest ≡ lines_at slot held bytes
  pub written : Appends old new (replies before answered)
  pub standing : later ≡ after_lines before answered
  pub left : held_behind holds rest ≡ held_behind held bytes
