-- The lines of the slots' streams, if all that came of each next line is held.
use Rattle.std.specs.Prelude.{ℕ, List, [], ◌∷◌, ◌++◌, slice_set, if◌then◌else◌}
use Rattle.alm_lines.specs.Line.{line_of}
use Rattle.alm_lines.specs.Stream.{is_end}
use Rattle.alm_desk.specs.Answers.{SlotLine}
use Rattle.alm_desk.specs.Desks.{Tagged, line_held_at}

-- what has come of the next line, after another byte
abbrev pub whole_after : List ℕ → ℕ → List ℕ
whole_after held b = if is_end b then [] else held ++ b ∷ []

-- the lines that bytes end, in the order in which their ends came
abbrev pub whole_lines : List (List ℕ) → List Tagged → List SlotLine
whole_lines helds [] = []
whole_lines helds (t ∷ ts) =
    if is_end t.byte then record {
      slot =
          t.slot;
      line = line_of (line_held_at helds t.slot);
    } ∷ whole_lines (slice_set helds t.slot (whole_after (line_held_at helds t.slot) t.byte))
    ts
    else whole_lines (slice_set helds t.slot (whole_after (line_held_at helds t.slot) t.byte)) ts
