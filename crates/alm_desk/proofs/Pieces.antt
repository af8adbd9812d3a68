-- The lines of a piece, up to the first line end and then of the rest.
use Rattle.std.proofs.Common.{◌≡◌, ℕ, ◌+◌, Bool, true, false, cond, List, [], ◌∷◌, ◌++◌, Option, Some, None, take, drop, suc, refl, ap, sym, ◌∙◌, arith, append_assoc}
use Rattle.std.specs.Prelude.{option_map, map, if◌then◌else◌}
use Rattle.std.specs.List.{cons_option}
use Rattle.std.proofs.Common.{inl, inr}
use Rattle.std.proofs.KnownBytes.{Appends-trans, Appends-nil}
use Rattle.std.proofs.lemmas.Bool.{cases_Bool}
use Rattle.std.proofs.lemmas.List.{take-append-drop, append-nil}
use Rattle.std.proofs.lemmas.List.{map-append}
use Rattle.std.specs.Io.KnownBytes.{Appends}
use Rattle.alm_lines.specs.declared.line.Line.{Line}
use Rattle.alm_lines.specs.Line.{line_of}
use Rattle.alm_lines.specs.Stream.{is_end, held_after, held_behind, bytes_used, line_ended}
use Rattle.alm_desk.specs.Answers.{DeskState, SlotLine, AnsweredLine, replies, after_lines, after_line, reply}
use Rattle.alm_lines.specs.Written.{IsCutShort}
use Rattle.alm_desk.specs.Failing.{answered_line, IsCutLine, BreaksOff}
use Rattle.alm_desk.specs.Feeding.{lines_at, line_asked, FeedsOn, IsFedAt}
use Rattle.alm_desk.specs.declared.hindrance.Hindrance.{Hindrance}

-- what is answered to lines is answered to the first ones and then to the others
pub replies-append : (s : DeskState) (xs ys : List AnsweredLine) → replies s (xs ++ ys) ≡ replies s xs ++ replies (after_lines s xs) ys
replies-append s [] ys = refl
replies-append s (x ∷ xs) ys = ap (λ t. reply s x ++ t) (replies-append (after_line s x) xs ys) ∙ sym (append_assoc (reply s x) (replies (after_line s x) xs) (replies (after_lines (after_line s x) xs) ys))

pub after_all-append : (s : DeskState) (xs ys : List AnsweredLine) → after_lines s (xs ++ ys) ≡ after_lines (after_lines s xs) ys
after_all-append s [] ys = refl
after_all-append s (x ∷ xs) ys = after_all-append (after_line s x) xs ys

said_at : ℕ → List ℕ → SlotLine
said_at slot line = record { slot = slot; line = line_of line }

one_then : (b : Bool) (n : ℕ) → b ≡ false → cond b 1 (1 + n) ≡ suc n
one_then b n e = rw e (omega arith)

-- the first line, if there is one, and then the lines of the rest
split_end : (slot : ℕ) (held bytes : List ℕ) (b : ℕ) → is_end b ≡ true → lines_at slot held (b ∷ bytes) ≡ cons_option (option_map (said_at slot) (line_ended held (b ∷ bytes))) (lines_at slot (held_behind held (take (bytes_used (b ∷ bytes)) (b ∷ bytes))) (drop (bytes_used (b ∷ bytes)) (b ∷ bytes)))
unfolding said_at
split_end slot held bytes b e = rw e (rw e refl)

split_on : (slot : ℕ) (held bytes : List ℕ) (b : ℕ) → is_end b ≡ false
    → lines_at slot (held_after held b) bytes ≡ cons_option (option_map (said_at slot) (line_ended (held_after held b) bytes)) (lines_at slot (held_behind (held_after held b) (take (bytes_used bytes) bytes)) (drop (bytes_used bytes) bytes))
    → lines_at slot held (b ∷ bytes) ≡ cons_option (option_map (said_at slot) (line_ended held (b ∷ bytes))) (lines_at slot (held_behind held (take (bytes_used (b ∷ bytes)) (b ∷ bytes))) (drop (bytes_used (b ∷ bytes)) (b ∷ bytes)))
split_on slot held bytes b e h =
    let rest : lines_at slot held (b ∷ bytes) ≡ lines_at slot (held_after held b) bytes =
    ap (λ (x : Bool). if x then record { slot = slot; line = line_of held } ∷ lines_at slot [] bytes else lines_at slot (held_after held b) bytes) e in
    let line : line_ended held (b ∷ bytes) ≡ line_ended (held_after held b) bytes = ap (λ (x : Bool). if x then Some held else line_ended (held_after held b) bytes) e in
    let taken = λ (u : ℕ). lines_at slot (held_behind held (take u (b ∷ bytes))) (drop u (b ∷ bytes)) in
    rest ∙ h
    ∙ sym (ap (λ (f : Option (List ℕ)). cons_option (option_map (said_at slot) f) (taken (suc (bytes_used bytes)))) line)
    ∙ sym (ap (λ (u : ℕ). cons_option (option_map (said_at slot) (line_ended held (b ∷ bytes))) (taken u)) (one_then (is_end b) (bytes_used bytes) e))

lines_split : (slot : ℕ) (held bytes : List ℕ) → lines_at slot held bytes ≡ cons_option (option_map (said_at slot) (line_ended held bytes)) (lines_at slot (held_behind held (take (bytes_used bytes) bytes)) (drop (bytes_used bytes) bytes))
lines_split slot held [] = refl
lines_split slot held (b ∷ bytes) = elim (cases_Bool (is_end b)) [ inl e ↦ split_end slot held bytes b e | inr e ↦ split_on slot held bytes b e (lines_split slot (held_after held b) bytes) ]

fed-append : (held xs ys : List ℕ) → held_behind held (xs ++ ys) ≡ held_behind (held_behind held xs) ys
fed-append held [] ys = refl
fed-append held (x ∷ xs) ys = fed-append (held_after held x) xs ys

fed_split : (held bytes : List ℕ) (n : ℕ) → held_behind (held_behind held (take n bytes)) (drop n bytes) ≡ held_behind held bytes
fed_split held bytes n = sym (fed-append held (take n bytes) (drop n bytes)) ∙ ap (held_behind held) (take-append-drop n bytes)

-- a line that was found is the one that is read
found_line : (slot : ℕ) (line : Line) (f : Option (List ℕ)) → Some line ≡ option_map line_of f → option_map (said_at slot) f ≡ Some (record { slot = slot; line = line })
unfolding said_at
found_line slot line None e = cc
found_line slot line (Some bytes) e = ap (λ (l : Option Line). option_map (λ (l : Line). record { slot = slot; line = l }) l) (sym e)

found_none : (slot : ℕ) (f : Option (List ℕ)) → option_map line_of f ≡ None → option_map (said_at slot) f ≡ None
found_none slot None e = refl
found_none slot (Some bytes) e = cc

-- the reply to a line is cut short
pub cut_line : (before later : DeskState) (s : SlotLine) (hindrance : Hindrance) (o n : Option (List ℕ))
    → later ≡ after_line before (answered_line s hindrance) → IsCutShort o n (reply before (answered_line s hindrance)) → IsCutLine before s o later n
cut_line before later s hindrance o n si wi = record { hindrance = hindrance; written = wi; standing = si }

-- nothing was answered yet
pub progress_none : (slot : ℕ) (before : DeskState) (held bytes : List ℕ) (old : Option (List ℕ)) → FeedsOn slot before held bytes old before held bytes old
progress_none slot before held bytes old = record {
  answered = [];
  lines = refl;
  written = Appends-nil old;
  standing = refl;
  left = refl;
}

-- a line is found, and then come the lines of the rest
next_line : (slot : ℕ) (line : Line) (holds rest : List ℕ) (n : ℕ) (holds' rest' : List ℕ)
    → n ≡ bytes_used rest → Some line ≡ option_map line_of (line_ended holds rest) → holds' ≡ held_behind holds (take n rest) → rest' ≡ drop n rest
    → lines_at slot holds rest ≡ record { slot = slot; line = line } ∷ lines_at slot holds' rest'
next_line slot line holds rest n holds' rest' ni li hi ri =
    rw (hi, ri, ni) (lines_split slot holds rest ∙ ap (λ (f : Option SlotLine). cons_option f (lines_at slot (held_behind holds (take (bytes_used rest) rest)) (drop (bytes_used rest) rest))) (found_line slot line (line_ended holds rest) li))

-- one line more
pub progress_line : {slot : ℕ} {before : DeskState} {held bytes : List ℕ} {old : Option (List ℕ)} {later : DeskState} {holds rest : List ℕ} {new : Option (List ℕ)}
    → FeedsOn slot before held bytes old later holds rest new
    → (n : ℕ) (line : Line) (hindrance : Hindrance) (later' : DeskState) (holds' rest' : List ℕ) (new' : Option (List ℕ))
    → n ≡ bytes_used rest → Some line ≡ option_map line_of (line_ended holds rest) → holds' ≡ held_behind holds (take n rest) → rest' ≡ drop n rest
    → later' ≡ after_line later (answered_line (record { slot = slot; line = line }) hindrance)
    → Appends new new' (reply later (answered_line (record { slot = slot; line = line }) hindrance))
    → FeedsOn slot before held bytes old later' holds' rest' new'
progress_line {slot} {before} {held} {bytes} {old} {later} {holds} {rest} {new} p n line hindrance later' holds' rest' new' ni li hi ri si wi =
    let s : SlotLine = record { slot = slot; line = line } in
    let m = answered_line s hindrance in
    let lines = next_line slot line holds rest n holds' rest' ni li hi ri in
    record {
      answered = p.answered ++ m ∷ [];
      lines = rw (map-append line_asked p.answered (m ∷ []), append_assoc (map line_asked p.answered) (s ∷ []) (lines_at slot holds' rest'), ← lines) p.lines;
      written = rw (replies-append before p.answered (m ∷ []), append-nil, ← p.standing) (Appends-trans old new new' (replies before p.answered) (reply later m) p.written wi);
      standing = rw (after_all-append before p.answered (m ∷ []), ← p.standing) si;
      left = rw (hi, ri) (fed_split holds rest n) ∙ p.left;
    }

-- the reply to the next line is cut short
pub progress_broken : {slot : ℕ} {before : DeskState} {held bytes : List ℕ} {old : Option (List ℕ)} {later : DeskState} {holds rest : List ℕ} {new : Option (List ℕ)}
    → FeedsOn slot before held bytes old later holds rest new
    → (n : ℕ) (line : Line) (hindrance : Hindrance) (later' : DeskState) (holds' rest' : List ℕ) (new' : Option (List ℕ))
    → n ≡ bytes_used rest → Some line ≡ option_map line_of (line_ended holds rest) → holds' ≡ held_behind holds (take n rest) → rest' ≡ drop n rest
    → later' ≡ after_line later (answered_line (record { slot = slot; line = line }) hindrance)
    → IsCutShort new new' (reply later (answered_line (record { slot = slot; line = line }) hindrance))
    → BreaksOff before (lines_at slot held bytes) old later' new'
progress_broken {slot} {before} {held} {bytes} {old} {later} {holds} {rest} {new} p n line hindrance later' holds' rest' new' ni li hi ri si wi =
    let lines = next_line slot line holds rest n holds' rest' ni li hi ri in
    record {
      answered = p.answered;
      last = record { slot = slot; line = line };
      others = lines_at slot holds' rest';
      all = sym (rw lines at p.lines);
      between = new;
      written = p.written;
      cut = record { hindrance = hindrance; written = rw (← p.standing) wi; standing = rw (← p.standing) si };
    }

-- bytes that end no line
pub progress_bytes : {slot : ℕ} {before : DeskState} {held bytes : List ℕ} {old : Option (List ℕ)} {later : DeskState} {holds rest : List ℕ} {new : Option (List ℕ)}
    → FeedsOn slot before held bytes old later holds rest new
    → (n : ℕ) (holds' rest' : List ℕ)
    → n ≡ bytes_used rest → option_map line_of (line_ended holds rest) ≡ None → holds' ≡ held_behind holds (take n rest) → rest' ≡ drop n rest
    → FeedsOn slot before held bytes old later holds' rest' new
progress_bytes {slot} {before} {held} {bytes} {old} {later} {holds} {rest} {new} p n holds' rest' ni li hi ri =
    let lines : lines_at slot holds rest ≡ lines_at slot holds' rest' = rw (hi, ri, ni) (lines_split slot holds rest ∙ ap (λ (f : Option SlotLine). cons_option f (lines_at slot (held_behind holds (take (bytes_used rest) rest)) (drop (bytes_used rest) rest))) (found_none slot (line_ended holds rest) li)) in
    record {
      answered = p.answered;
      lines = rw (← lines) p.lines;
      written = p.written;
      standing = p.standing;
      left = rw (hi, ri) (fed_split holds rest n) ∙ p.left;
    }

-- no bytes are left
pub progress_all : {slot : ℕ} {before : DeskState} {held bytes : List ℕ} {old : Option (List ℕ)} {later : DeskState} {holds rest : List ℕ} {new : Option (List ℕ)}
    → FeedsOn slot before held bytes old later holds rest new → rest ≡ [] → IsFedAt slot before held bytes old later holds new
progress_all {slot} {before} {held} {bytes} {old} {later} {holds} {rest} {new} p e = record {
  answered = p.answered;
  lines = sym (append-nil (map line_asked p.answered)) ∙ (rw e at p.lines);
  written = p.written;
  standing = p.standing;
  left = rw e at p.left;
}
