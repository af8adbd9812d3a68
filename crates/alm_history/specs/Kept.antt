-- The rule of a history that has one writer, and what its steps say.
use Rattle.std.specs.Prelude.{ℕ, ◌≡◌, ◌==◌, true, List, [], ◌∷◌, ◌++◌, Option, Some, None, MatchBool}
use Rattle.logbook.specs.Pages.{Cell, cell, Step, View, Book, Named, may_make}
use Rattle.alm_history.specs.declared.marked.Marked.{Marked}

-- the history's word
abbrev pub first_word : Book → Named
first_word b = record { tracked = true; key = 0; book = b }

module _ {E : Type 0} where
  abbrev pub with_added : Option E → List E → List E
  with_added None more = more
  with_added (Some e) more = e ∷ more

  -- what was added
  abbrev pub added_in : List (Marked E) → List E
  added_in [] = []
  added_in (m ∷ log) = with_added m.entry (added_in log)

  -- the key whose pen adds the next, where this one's added the first of these
  abbrev pub key_after : ℕ → List (Marked E) → ℕ
  key_after key [] = key
  key_after key (m ∷ log) = key_after m.next log

  -- the key whose pen adds the next
  abbrev pub next_key : List (Marked E) → ℕ
  next_key log = key_after 0 log

  -- the pen of each of these was used up: its word is at home. The first of them took this key's
  abbrev pub AreUsed : List Cell → ℕ → List (Marked E) → Type 0
  AreUsed cells key [] = Unit {0}
  AreUsed cells key (m ∷ log) = ((cell cells key).1 ≡ true) × AreUsed cells m.next log

  -- the first word says whether the history has begun. From then on each entry used up a pen
  abbrev pub IsKept : List Cell → List (Marked E) → Type 0
  IsKept cells [] = cell cells 0 ≡ (0, true)
  IsKept cells (m ∷ log) = (cell cells 0 ≡ (1, true)) × AreUsed cells m.next log

  -- the entry was added to all that had been seen
  abbrev pub Appends : Step (Marked E) → View (Marked E) ℕ → ℕ → View (Marked E) ℕ → Type 0
  Appends s v found w = w.0 ≡ v.0 ++ s.ask ∷ []

  -- if the history had not begun, it begins so
  abbrev pub BeginsLog : Step (Marked E) → View (Marked E) ℕ → ℕ → View (Marked E) ℕ → Type 0
  BeginsLog s v found w = MatchBool (found == 0) (w.0 ≡ s.ask ∷ []) (Unit {0})

  -- there is a pen for a word that is to be made
  abbrev pub GivesPen : Step (Marked E) → View (Marked E) ℕ → ℕ → View (Marked E) ℕ → Type 0
  GivesPen s v found w = w.1.0.right ≡ may_make
