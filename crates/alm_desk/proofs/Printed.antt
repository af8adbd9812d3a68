-- Bytes that a desk hears.
use Rattle.std.proofs.Common.{◌≡◌, ℕ, ◌+◌, ◌<◌, Bool, true, false, List, [], ◌∷◌, ◌++◌, Option, length, take, drop, get_or, refl, ap, sym, ◌∙◌, append_assoc}
use Rattle.std.specs.Prelude.{IfSome, map, if◌then◌else◌, Err}
use Rattle.std.proofs.KnownBytes.{Appends-trans, Appends-nil, Appends-kept, Consumes-nil, Consumes-trans, Consumes-whole}
use Rattle.std.proofs.lemmas.List.{map-append, append-nil, take_more, take-append-drop}
use Rattle.std.specs.Io.KnownBytes.{Appends, Keeps}
use Rattle.std.proofs.Common.{inl, inr}
use Rattle.std.proofs.lemmas.Bool.{cases_Bool}
use Rattle.alm_types.specs.Counts.{one_more}
use Rattle.alm_lines.specs.Stream.{is_end}
use Rattle.alm_desk.specs.Answers.{DeskState}
use Rattle.alm_desk.specs.DeskLines.{AnsweredBytes, IsPrinted, IsDesk, IsCutDeskLine, BreaksOffLines, held_at_desk, fed_to_desk, lines_of, line, text_printed_for, stands_after, desk_reply, desk_after, desk_line_of}
use Rattle.alm_desk.specs.Desks.{Desk}
use Rattle.alm_desk.specs.declared.counted_reader.CountedReader.{CountedReader}
use Rattle.alm_desk.specs.declared.counted_writer.CountedWriter.{CountedWriter}
use Rattle.alm_desk.specs.declared.run_fault.RunFault.{RunFault}
use Rattle.alm_desk.specs.declared.run_fault.RunFault.TheVariants.{Read, Write}
use Rattle.alm_desk.specs.Turns.{IsReaderTurn, IsPrintedSoFar, IsBroken, RunEnds, RunPrints, TurnEnds}

printed-append : (s : DeskState) (xs ys : List AnsweredBytes) → text_printed_for s (xs ++ ys) ≡ text_printed_for s xs ++ text_printed_for (stands_after s xs) ys
printed-append s [] ys = refl
printed-append s (x ∷ xs) ys =
    let s' = desk_after s (desk_line_of x.line) x.hindrance in
    ap (λ t. desk_reply s (desk_line_of x.line) x.hindrance ++ t) (printed-append s' xs ys) ∙ sym (append_assoc (desk_reply s (desk_line_of x.line) x.hindrance) (text_printed_for s' xs) (text_printed_for (stands_after s' xs) ys))

stands_after-append : (s : DeskState) (xs ys : List AnsweredBytes) → stands_after s (xs ++ ys) ≡ stands_after (stands_after s xs) ys
stands_after-append s [] ys = refl
stands_after-append s (x ∷ xs) ys = stands_after-append (desk_after s (desk_line_of x.line) x.hindrance) xs ys

fed_to_desk-append : (held xs ys : List ℕ) → fed_to_desk held (xs ++ ys) ≡ fed_to_desk (fed_to_desk held xs) ys
fed_to_desk-append held [] ys = refl
fed_to_desk-append held (b ∷ xs) ys = fed_to_desk-append (held_at_desk held b) xs ys

-- what a byte adds to the lines
more_of : Bool → List ℕ → List (List ℕ) → List (List ℕ)
more_of ends held rest = if ends then held ∷ rest else rest

lines_of-step : (held : List ℕ) (b : ℕ) (bytes : List ℕ) → lines_of held (b ∷ bytes) ≡ more_of (is_end b) held (lines_of (held_at_desk held b) bytes)
unfolding more_of
lines_of-step held b bytes = elim (cases_Bool (is_end b)) [ inl e ↦ rw e refl | inr e ↦ rw e refl ]

more_of-append : (ends : Bool) (held : List ℕ) (xs ys : List (List ℕ)) → more_of ends held (xs ++ ys) ≡ more_of ends held xs ++ ys
unfolding more_of
more_of-append true held xs ys = refl
more_of-append false held xs ys = refl

lines_of-append : (held xs ys : List ℕ) → lines_of held (xs ++ ys) ≡ lines_of held xs ++ lines_of (fed_to_desk held xs) ys
lines_of-append held [] ys = refl
lines_of-append held (b ∷ xs) ys =
    lines_of-step held b (xs ++ ys) ∙ ap (more_of (is_end b) held) (lines_of-append (held_at_desk held b) xs ys)
    ∙ more_of-append (is_end b) held (lines_of (held_at_desk held b) xs) (lines_of (fed_to_desk (held_at_desk held b) xs) ys)
    ∙ sym (ap (λ (l : List (List ℕ)). l ++ lines_of (fed_to_desk (held_at_desk held b) xs) ys) (lines_of-step held b xs))

-- nothing was answered
pub answered_none : (s : DeskState) (held : List ℕ) (o : Option (List ℕ)) → IsPrinted s held [] o s held o
answered_none s held o = record { answered = []; lines = refl; written = Appends-nil o; standing = refl; left = refl }

-- bytes are answered, and then others
pub joined : {a b c : DeskState} {h i j xs ys : List ℕ} {o m n : Option (List ℕ)} → IsPrinted a h xs o b i m → IsPrinted b i ys m c j n → IsPrinted a h (xs ++ ys) o c j n
joined {a} {b} {c} {h} {i} {j} {xs} {ys} {o} {m} {n} p q = record {
  answered = p.answered ++ q.answered;
  lines = rw (map-append line p.answered q.answered, p.lines, q.lines, p.left) (sym (lines_of-append h xs ys));
  written = rw (printed-append a p.answered q.answered, ← p.standing) (Appends-trans o m n (text_printed_for a p.answered) (text_printed_for b q.answered) p.written q.written);
  standing = rw (stands_after-append a p.answered q.answered, ← p.standing) q.standing;
  left = rw (fed_to_desk-append h xs ys, ← p.left) q.left;
}

-- a byte that ends a line
pub answered_end : (a b : DeskState) (h i : List ℕ) (byte : ℕ) (x : AnsweredBytes) (o n : Option (List ℕ)) → is_end byte ≡ true → x.line ≡ h → i ≡ []
    → Appends o n (desk_reply a (desk_line_of x.line) x.hindrance) → b ≡ desk_after a (desk_line_of x.line) x.hindrance → IsPrinted a h (byte ∷ []) o b i n
answered_end a b h i byte x o n e l k w s = record {
  answered = x ∷ [];
  lines = rw e (ap (λ (y : List ℕ). y ∷ []) l);
  written = rw append-nil w;
  standing = s;
  left = rw e k;
}

-- and one that doesn't
pub answered_byte : (a : DeskState) (h i : List ℕ) (byte : ℕ) (o : Option (List ℕ)) → is_end byte ≡ false → i ≡ take 131 (h ++ byte ∷ []) → IsPrinted a h (byte ∷ []) o a i o
unfolding more_of
answered_byte a h i byte o e k = record {
  answered = [];
  lines = sym (lines_of-step h byte [] ∙ rw e refl);
  written = Appends-nil o;
  standing = refl;
  left = rw e k;
}

-- what is flushed stays as it was
pub answered_kept : {a b : DeskState} {h i xs : List ℕ} {o m : Option (List ℕ)} (n : Option (List ℕ)) → IsPrinted a h xs o b i m → Keeps m n → IsPrinted a h xs o b i n
answered_kept {a} {b} {h} {i} {xs} {o} {m} n p k = record { answered = p.answered; lines = p.lines; written = Appends-kept o m n (text_printed_for a p.answered) p.written k; standing = p.standing; left = p.left }

pub taken : (xs : List ℕ) (i : ℕ) → i < length xs → take (i + 1) xs ≡ take i xs ++ get_or xs i 0 ∷ []
taken xs i h = take_more xs i 0 h

pub split : (xs : List ℕ) (i : ℕ) → i < length xs → xs ≡ (take i xs ++ get_or xs i 0 ∷ []) ++ drop (i + 1) xs
split xs i h = sym (take-append-drop (i + 1) xs) ∙ ap (λ (t : List ℕ). t ++ drop (i + 1) xs) (taken xs i h)

-- nothing was read yet
pub turn_none : (a : DeskState) (h : List ℕ) (r o : Option (List ℕ)) → IsReaderTurn true a h r o a h r o
turn_none a h r o = record { bytes = []; read = Consumes-nil r; answered = answered_none a h o; ended = λ e. cc }

-- reads, and one more
pub turns : {more : Bool} {a b c : DeskState} {h i j : List ℕ} {r s t o m n : Option (List ℕ)} → IsReaderTurn true a h r o b i s m → IsReaderTurn more b i s m c j t n → IsReaderTurn more a h r o c j t n
turns {more} {a} {b} {c} {h} {i} {j} {r} {s} {t} {o} {m} {n} p q = record {
  bytes = p.bytes ++ q.bytes;
  read = Consumes-trans r s t p.bytes q.bytes p.read q.read;
  answered = joined p.answered q.answered;
  ended = q.ended;
}

-- the input is at its end
pub turns_end : {a c : DeskState} {h j : List ℕ} {r t o n : Option (List ℕ)} → h ≡ [] → IsReaderTurn false a h r o c j t n → IfSome r (λ input. IsDesk a input o c n)
turns_end {a} {c} {h} {j} {r} {t} {o} {n} e p =
    Consumes-whole r t p.bytes (λ input. IsDesk a input o c n) p.read (p.ended refl)
    (record { answered = p.answered.answered; lines = p.answered.lines ∙ ap (λ x. lines_of x p.bytes) e; written = p.answered.written; standing = p.answered.standing })

-- ---- a writer fails

-- in the line that a byte ends
pub broken_end : {a b later : DeskState} {h i xs : List ℕ} {o m n : Option (List ℕ)} (byte : ℕ) (zs : List ℕ) → IsPrinted a h xs o b i m → is_end byte ≡ true
    → IsCutDeskLine b (desk_line_of i) m later n → BreaksOffLines a (lines_of h ((xs ++ byte ∷ []) ++ zs)) o later n
broken_end {a} {b} {later} {h} {i} {xs} {o} {m} {n} byte zs p e q =
    let next : lines_of i (byte ∷ zs) ≡ i ∷ lines_of [] zs = rw e refl in
    record {
      answered = p.answered;
      others = i ∷ lines_of [] zs;
      all = ap (lines_of h) (append_assoc xs (byte ∷ []) zs) ∙ lines_of-append h xs (byte ∷ zs) ∙ rw (p.lines, ← p.left, next) refl;
      between = m;
      written = p.written;
      cut = rw (← p.standing) q;
    }

-- as it flushes what was written
pub broken_handing : {a b : DeskState} {h i xs : List ℕ} {o m : Option (List ℕ)} (n : Option (List ℕ)) → IsPrinted a h xs o b i m → Keeps m n → BreaksOffLines a (lines_of h xs) o b n
broken_handing {a} {b} {h} {i} {xs} {o} {m} n p k = record {
  answered = p.answered;
  others = [];
  all = sym (append-nil (map line p.answered) ∙ p.lines);
  between = m;
  written = p.written;
  cut = (p.standing, k);
}

-- after bytes that are answered
broken_after : {a b later : DeskState} {h i xs : List ℕ} {o m n : Option (List ℕ)} (ys : List ℕ) → IsPrinted a h xs o b i m → BreaksOffLines b (lines_of i ys) m later n → BreaksOffLines a (lines_of h (xs ++ ys)) o later n
broken_after {a} {b} {later} {h} {i} {xs} {o} {m} {n} ys p q =
    record {
      answered = p.answered ++ q.answered;
      others = q.others;
      all = lines_of-append h xs ys ∙ rw (← p.left, ← p.lines, q.all) refl ∙ sym (append_assoc (map line p.answered) (map line q.answered) q.others) ∙ ap (λ (t : List (List ℕ)). t ++ q.others) (sym (map-append line p.answered q.answered));
      between = q.between;
      written = rw (printed-append a p.answered q.answered, ← p.standing) (Appends-trans o m q.between (text_printed_for a p.answered) (text_printed_for b q.answered) p.written q.written);
      cut = rw (stands_after-append a p.answered q.answered, ← p.standing) q.cut;
    }

-- after reads
pub turns_broken : {a b later : DeskState} {h i : List ℕ} {r s t o m n : Option (List ℕ)} → IsReaderTurn true a h r o b i s m → IsBroken b i s m later t n → IsBroken a h r o later t n
turns_broken {a} {b} {later} {h} {i} {r} {s} {t} {o} {m} {n} p q = record {
  bytes = p.bytes ++ q.bytes;
  read = Consumes-trans r s t p.bytes q.bytes p.read q.read;
  broken = broken_after q.bytes p.answered q.broken;
}

-- ---- a run ends

-- what a run has answered that ends in a fault
pub fault_prints : {a later : DeskState} {r t o n : Option (List ℕ)} (fault : RunFault) → (fault ≡ Read → IsPrintedSoFar a r o later t n) → (fault ≡ Write → IsBroken a [] r o later t n) → RunPrints (Err fault) a r o later t n
fault_prints Read p q = p refl
fault_prints Write p q = q refl

module _ {R W : Type 0} where
  -- turns without a failure, and one that fails
  pub fault_ends : (fault : RunFault) (desk later : Desk) (reader between read : CountedReader R) (writer meanwhile written : CountedWriter W) → desk.closed ≡ false → between.failed ≡ reader.failed → meanwhile.failed ≡ writer.failed
      → TurnEnds (Err fault) later between read meanwhile written → RunEnds (Err fault) desk later reader read writer written
  fault_ends Read desk later reader between read writer meanwhile written still_open r w (c, f, v) = (still_open, c, inl (f ∙ ap one_more r), v ∙ w)
  fault_ends Write desk later reader between read writer meanwhile written still_open r w (c, f, v) = (c, f ∙ r, inr (v ∙ ap one_more w))
