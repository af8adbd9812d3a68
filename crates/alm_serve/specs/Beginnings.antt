-- What a connection keeps of how it began.
use Rattle.std.specs.Prelude.{◌≡◌, ℕ, Bool, true, false, List, [], ◌∷◌, take}
use Rattle.alm_serve.specs.Http.{http_text, first_line_of, is_whole, has_space, last_word}
use Rattle.alm_serve.specs.declared.first_line.FirstLine.{FirstLine}

-- there is a byte
abbrev pub is_some : List ℕ → Bool
is_some [] = false
is_some (byte ∷ text) = true

-- of the first line of what came: whether it has begun, has ended and has a space, and the first ten bytes of its last word
pub record KnowsLine (came : List ℕ) (begun ended space : Bool) (word : List ℕ) : Type 0 where
  pub begins : begun ≡ is_some (http_text came)
  pub ends : ended ≡ is_whole (http_text came)
  pub spaced : space ≡ has_space (first_line_of (http_text came))
  pub last : word ≡ take 10 (last_word (first_line_of (http_text came)))

-- this line and the first eight bytes are those of what came
abbrev pub Saw : List ℕ → List ℕ → FirstLine → Type 0
Saw came bytes line = (bytes ≡ take 8 came) × KnowsLine came line.has_begun line.has_ended line.has_space line.word.items
