-- The lines of bytes, up to the first line end and then of the rest.
use Rattle.std.proofs.Common.{◌≡◌, ℕ, ◌+◌, Bool, true, false, cond, List, [], ◌∷◌, ◌++◌, Option, Some, None, take, drop, suc, refl, ap, sym, ◌∙◌, arith, inl, inr}
use Rattle.std.specs.Prelude.{option_map, if◌then◌else◌}
use Rattle.std.specs.List.{cons_option}
use Rattle.std.proofs.lemmas.Bool.{cases_Bool}
use Rattle.std.proofs.lemmas.List.{take-append-drop}
use Rattle.alm_lines.specs.declared.line.Line.{Line}
use Rattle.alm_lines.specs.Line.{line_of}
use Rattle.alm_lines.specs.Stream.{is_end, held_after, held_behind, bytes_used, line_ended}
use Rattle.alm_session.specs.Intakes.{lines_from, if_held}

one_then : (b : Bool) (n : ℕ) → b ≡ false → cond b 1 (1 + n) ≡ suc n
one_then b n e = rw e (omega arith)

split_end : (held bytes : List ℕ) (b : ℕ) → is_end b ≡ true → lines_from held (b ∷ bytes) ≡ cons_option (option_map line_of (line_ended held (b ∷ bytes))) (lines_from (held_behind held (take (bytes_used (b ∷ bytes)) (b ∷ bytes))) (drop (bytes_used (b ∷ bytes)) (b ∷ bytes)))
split_end held bytes b e = rw e (rw e refl)

split_on : (held bytes : List ℕ) (b : ℕ) → is_end b ≡ false
    → lines_from (held_after held b) bytes ≡ cons_option (option_map line_of (line_ended (held_after held b) bytes)) (lines_from (held_behind (held_after held b) (take (bytes_used bytes) bytes)) (drop (bytes_used bytes) bytes))
    → lines_from held (b ∷ bytes) ≡ cons_option (option_map line_of (line_ended held (b ∷ bytes))) (lines_from (held_behind held (take (bytes_used (b ∷ bytes)) (b ∷ bytes))) (drop (bytes_used (b ∷ bytes)) (b ∷ bytes)))
split_on held bytes b e h =
    let rest : lines_from held (b ∷ bytes) ≡ lines_from (held_after held b) bytes =
    ap (λ (x : Bool). if x then line_of held ∷ lines_from [] bytes else lines_from (held_after held b) bytes) e in
    let line : line_ended held (b ∷ bytes) ≡ line_ended (held_after held b) bytes = ap (λ (x : Bool). if x then Some held else line_ended (held_after held b) bytes) e in
    let taken = λ (u : ℕ). lines_from (held_behind held (take u (b ∷ bytes))) (drop u (b ∷ bytes)) in
    rest ∙ h
    ∙ sym (ap (λ (f : Option (List ℕ)). cons_option (option_map line_of f) (taken (suc (bytes_used bytes)))) line)
    ∙ sym (ap (λ (u : ℕ). cons_option (option_map line_of (line_ended held (b ∷ bytes))) (taken u)) (one_then (is_end b) (bytes_used bytes) e))

lines_split : (held bytes : List ℕ) → lines_from held bytes ≡ cons_option (option_map line_of (line_ended held bytes)) (lines_from (held_behind held (take (bytes_used bytes) bytes)) (drop (bytes_used bytes) bytes))
lines_split held [] = refl
lines_split held (b ∷ bytes) = elim (cases_Bool (is_end b)) [ inl e ↦ split_end held bytes b e | inr e ↦ split_on held bytes b e (lines_split (held_after held b) bytes) ]

pub fed-append : (held xs ys : List ℕ) → held_behind held (xs ++ ys) ≡ held_behind (held_behind held xs) ys
fed-append held [] ys = refl
fed-append held (x ∷ xs) ys = fed-append (held_after held x) xs ys

fed_split : (held bytes : List ℕ) (n : ℕ) → held_behind (held_behind held (take n bytes)) (drop n bytes) ≡ held_behind held bytes
fed_split held bytes n = sym (fed-append held (take n bytes) (drop n bytes)) ∙ ap (held_behind held) (take-append-drop n bytes)

-- if no line end is found, none is left
none_left : (held bytes : List ℕ) → line_ended held bytes ≡ None → drop (bytes_used bytes) bytes ≡ []
none_left held [] e = refl
none_left held (b ∷ bytes) e =
    elim (cases_Bool (is_end b)) [
      | inl t ↦ (let bad : Some held ≡ None = ap (λ (x : Bool). if x then Some held else line_ended (held_after held b) bytes) (sym t) ∙ e in cc)
      | inr f ↦
          let e' : line_ended (held_after held b) bytes ≡ None = ap (λ (x : Bool). if x then Some held else line_ended (held_after held b) bytes) (sym f) ∙ e in
          ap (λ (u : ℕ). drop u (b ∷ bytes)) (one_then (is_end b) (bytes_used bytes) f) ∙ none_left (held_after held b) bytes e'
    ]

held_option : (f : Option Line) (lines : List Line) → cons_option f lines ≡ if_held f ++ lines
held_option None lines = refl
held_option (Some l) lines = refl

-- a decoder was fed up to the first line end
pub same_lines : (held holds bytes rest : List ℕ) (n : ℕ) (line : Option Line) → n ≡ bytes_used bytes → line ≡ option_map line_of (line_ended held bytes) → holds ≡ held_behind held (take n bytes) → rest ≡ drop n bytes
    → if_held line ++ lines_from holds rest ≡ lines_from held bytes
same_lines held holds bytes rest n line e f g h =
    rw (h, g, e, f) (sym (held_option (option_map line_of (line_ended held bytes)) _) ∙ sym (lines_split held bytes))

pub same_open : (held holds bytes rest : List ℕ) (n : ℕ) → holds ≡ held_behind held (take n bytes) → rest ≡ drop n bytes → held_behind holds rest ≡ held_behind held bytes
same_open held holds bytes rest n g h = rw (h, g) (fed_split held bytes n)

mapped_none : {A B : Type 0} (f : A → B) (o : Option A) → option_map f o ≡ None → o ≡ None
mapped_none f None e = refl
mapped_none f (Some x) e = cc

pub nothing_left : (held bytes rest : List ℕ) (n : ℕ) (line : Option Line) → n ≡ bytes_used bytes → line ≡ option_map line_of (line_ended held bytes) → rest ≡ drop n bytes → line ≡ None → rest ≡ []
nothing_left held bytes rest n line e f h none = h ∙ ap (λ (u : ℕ). drop u bytes) e ∙ none_left held bytes (mapped_none line_of (line_ended held bytes) (sym f ∙ none))
