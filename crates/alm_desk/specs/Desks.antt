-- A desk over streams at many slots.
use Rattle.std.specs.Prelude.{◌≡◌, ℕ, List, [], ◌∷◌, Bool, true, false, Option, map, slice_index_or, slice_set, if◌then◌else◌}
use Rattle.std.specs.Io.KnownBytes.{Appends}
use Rattle.alm_types.specs.Counts.{one_more}
use Rattle.alm_lines.specs.Line.{line_of}
use Rattle.alm_lines.specs.Stream.{is_end, held_after}
use Rattle.alm_desk.specs.Answers.{DeskState, SlotLine, AnsweredLine, replies, after_lines}
use Rattle.alm_desk.specs.Feeding.{line_asked}
use Rattle.alm_desk.specs.declared.desk_fault.DeskFault.{DeskFault}
use Rattle.alm_desk.specs.declared.desk_fault.DeskFault.TheVariants.{Write, Closed}

-- the state of a backend, what a desk holds of the next line of each slot, and whether its writer has failed
pub record Desk : Type 0 where
  pub standing : DeskState
  pub helds : List (List ℕ)
  pub closed : Bool

-- a byte that came at a slot
pub record Tagged : Type 0 where
  pub slot : ℕ
  pub byte : ℕ

abbrev pub byte_of_slot : ℕ → ℕ → Tagged
byte_of_slot slot b = record { slot = slot; byte = b }

abbrev pub bytes_of_slot : ℕ → List ℕ → List Tagged
bytes_of_slot slot bytes = map (byte_of_slot slot) bytes

-- what is held of the next line of a slot
abbrev pub line_held_at : List (List ℕ) → ℕ → List ℕ
line_held_at helds slot = slice_index_or helds slot []

abbrev pub after_byte : List (List ℕ) → Tagged → List (List ℕ)
after_byte helds t = slice_set helds t.slot (held_after (line_held_at helds t.slot) t.byte)

-- what is held after bytes, in the order in which they came
abbrev pub held_by : List (List ℕ) → List Tagged → List (List ℕ)
held_by helds [] = helds
held_by helds (t ∷ ts) = held_by (after_byte helds t) ts

-- the lines that bytes end, in the order in which their ends came
abbrev pub lines_among : List (List ℕ) → List Tagged → List SlotLine
lines_among helds [] = []
lines_among helds (t ∷ ts) =
    if is_end t.byte then record { slot = t.slot; line = line_of (line_held_at helds t.slot) } ∷ lines_among (after_byte helds t) ts else lines_among
    (after_byte helds t) ts

-- bytes are fed: the replies to the lines that they end are written, in the order in which their ends came
pub record IsFed (before : Desk) (bytes : List Tagged) (old : Option (List ℕ)) (later : Desk) (new : Option (List ℕ)) : Type 0 where
  pub answered : List AnsweredLine
  pub lines : map line_asked answered ≡ lines_among before.helds bytes
  pub written : Appends old new (replies before.standing answered)
  pub standing : later.standing ≡ after_lines before.standing answered
  pub held : later.helds ≡ held_by before.helds bytes
  pub open_before : before.closed ≡ false
  pub open_later : later.closed ≡ false

-- a desk closes if its writer failed, and stays closed
abbrev pub ClosesAfter : DeskFault → Bool → Bool → ℕ → ℕ → Type 0
ClosesAfter Write was is old new = (was ≡ false) × (is ≡ true) × (new ≡ one_more old)
ClosesAfter Closed was is old new = (was ≡ true) × (is ≡ true) × (new ≡ old)
