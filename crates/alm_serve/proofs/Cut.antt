-- Prefixes of what is written.
use Rattle.std.proofs.Common.{ℕ, List, [], ◌++◌, Option, Result, Ok, Err, ap, sym, ◌∙◌, append_assoc}
use Rattle.std.specs.Bool.{⊤}
use Rattle.std.specs.Io.KnownBytes.{Appends}
use Rattle.std.proofs.KnownBytes.{Appends-trans}
use Rattle.std.proofs.lemmas.List.{append-nil}
use Rattle.alm_lines.specs.Written.{IsCutShort, Prints}

-- what is printed is written, or a prefix of it
pub as_cut : {E : Type 0} (o n : Option (List ℕ)) (text : List ℕ) (r : Result ⊤ E) → Prints o n text r → IsCutShort o n text
as_cut {E} o n text (Ok x) p = record { front = text; rest = []; whole = sym (append-nil text); written = p }
as_cut {E} o n text (Err x) p = p

-- a prefix after a text that is written
pub cut_behind : (o m n : Option (List ℕ)) (text more : List ℕ) → Appends o m text → IsCutShort m n more → IsCutShort o n (text ++ more)
cut_behind o m n text more a p = record {
  front = text ++ p.front;
  rest = p.rest;
  whole = ap (λ (t : List ℕ). text ++ t) p.whole ∙ sym (append_assoc text p.front p.rest);
  written = Appends-trans o m n text p.front a p.written;
}
