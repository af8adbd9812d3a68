-- Prefixes of a text.
use Rattle.std.proofs.Common.{◌≡◌, ℕ, List, [], ◌++◌, Option, Result, Ok, Err, take, drop, refl, sym, ap, ◌∙◌, append_assoc, append-nil, take-append-drop}
use Rattle.std.specs.Bool.{⊤}
use Rattle.std.specs.Prelude.{IsErr, OnErr}
use Rattle.std.specs.Io.KnownBytes.{Appends, Keeps}
use Rattle.std.proofs.KnownBytes.{Appends-trans, Appends-nil, Appends-kept}
use Rattle.alm_lines.specs.Written.{IsCutShort, Prints}

-- a text was written up to a rest
pub record IsUpTo (old new : Option (List ℕ)) (text rest : List ℕ) : Type 0 where
  pub front : List ℕ
  pub whole : text ≡ front ++ rest
  pub written : Appends old new front

pub up_to_none : (o : Option (List ℕ)) (text : List ℕ) → IsUpTo o o text text
up_to_none o text = record { front = []; whole = refl; written = Appends-nil o }

pub up_to_more : {o m : Option (List ℕ)} {text rest : List ℕ} → IsUpTo o m text rest → (n : Option (List ℕ)) (k : ℕ) (left : List ℕ) → Appends m n (take k rest) → left ≡ drop k rest → IsUpTo o n text left
up_to_more {o} {m} {text} {rest} p n k left w e = record {
  front = p.front ++ take k rest;
  whole = p.whole ∙ ap (λ t. p.front ++ t) (sym (take-append-drop k rest) ∙ ap (λ t. take k rest ++ t) (sym e)) ∙ sym (append_assoc p.front (take k rest) left);
  written = Appends-trans o m n p.front (take k rest) p.written w;
}

pub up_to_kept : {o m : Option (List ℕ)} {text rest : List ℕ} → IsUpTo o m text rest → (n : Option (List ℕ)) → Keeps m n → IsUpTo o n text rest
up_to_kept {o} {m} {text} {rest} p n k = record { front = p.front; whole = p.whole; written = Appends-kept o m n p.front p.written k }

pub up_to_all : {o n : Option (List ℕ)} {text rest : List ℕ} → IsUpTo o n text rest → rest ≡ [] → Appends o n text
up_to_all {o} {n} {text} {rest} p e = rw (p.whole, e, append-nil p.front) p.written

pub up_to_cut : {o n : Option (List ℕ)} {text rest : List ℕ} → IsUpTo o n text rest → IsCutShort o n text
up_to_cut {o} {n} {text} {rest} p = record { front = p.front; rest = rest; whole = p.whole; written = p.written }

-- no byte was written
pub cut_at_once : (o : Option (List ℕ)) (text : List ℕ) → IsCutShort o o text
cut_at_once o text = record { front = []; rest = text; whole = refl; written = Appends-nil o }

-- the cut comes in the second of two texts
pub cut_in_second : {o m n : Option (List ℕ)} (xs : List ℕ) {ys : List ℕ} → Appends o m xs → IsCutShort m n ys → IsCutShort o n (xs ++ ys)
cut_in_second {o} {m} {n} xs {ys} w p = record {
  front = xs ++ p.front;
  rest = p.rest;
  whole = ap (λ t. xs ++ t) p.whole ∙ sym (append_assoc xs p.front p.rest);
  written = Appends-trans o m n xs p.front w p.written;
}

-- or in the first
pub cut_in_first : {o n : Option (List ℕ)} {xs : List ℕ} → IsCutShort o n xs → (ys : List ℕ) → IsCutShort o n (xs ++ ys)
cut_in_first {o} {n} {xs} p ys = record {
  front = p.front;
  rest = p.rest ++ ys;
  whole = ap (λ t. t ++ ys) p.whole ∙ append_assoc p.front p.rest ys;
  written = p.written;
}

-- a whole text, and then another
pub prints_then : {E : Type 0} (o m : Option (List ℕ)) (xs : List ℕ) → Appends o m xs → (n : Option (List ℕ)) (ys : List ℕ) (r : Result ⊤ E) → Prints m n ys r → Prints o n (xs ++ ys) r
prints_then {E} o m xs w n ys (Ok x) p = Appends-trans o m n xs ys w p
prints_then {E} o m xs w n ys (Err e) p = cut_in_second xs w p

-- the writer failed
pub prints_err : {E : Type 0} {o n : Option (List ℕ)} {text : List ℕ} (r : Result ⊤ E) → IsErr r → IsCutShort o n text → Prints o n text r
prints_err {E} {o} {n} {text} (Ok x) e p = cc
prints_err {E} {o} {n} {text} (Err x) e p = p

-- the same text in other parts
pub prints_same : {E : Type 0} (o n : Option (List ℕ)) {xs : List ℕ} (ys : List ℕ) (r : Result ⊤ E) → xs ≡ ys → Prints o n xs r → Prints o n ys r
prints_same {E} o n {xs} ys r e p = rw e at p

pub cut_same : {o n : Option (List ℕ)} {xs : List ℕ} (ys : List ℕ) → xs ≡ ys → IsCutShort o n xs → IsCutShort o n ys
cut_same {o} {n} {xs} ys e p = rw e at p

-- the result of a writing
pub printed_whole : {E : Type 0} (o n : Option (List ℕ)) (text : List ℕ) (r : Result ⊤ E) (x : ⊤) → r ≡ Ok x → Prints o n text r → Appends o n text
printed_whole {E} o n text r x e p = rw e at p

pub printed_front : {E : Type 0} (o n : Option (List ℕ)) (text : List ℕ) (r : Result ⊤ E) (x : E) → r ≡ Err x → Prints o n text r → IsCutShort o n text
printed_front {E} o n text r x e p = rw e at p

pub on_err : {T E P : Type 0} (r : Result T E) → P → OnErr r P
on_err {T} {E} {P} (Ok x) p = tt
on_err {T} {E} {P} (Err x) p = p
