-- Streams at many slots.
use Rattle.std.proofs.Common.{◌≡◌, ℕ, ◌<◌, Bool, List, [], ◌∷◌, ◌++◌, Option, length, refl, ap, sym, ◌∙◌, arith, true, false, inl, inr, append_assoc}
use Rattle.std.specs.Prelude.{map, slice_set, if◌then◌else◌, Result, Err, IfErr, ⊤}
use Rattle.std.proofs.KnownBytes.{Appends-trans, Appends-nil}
use Rattle.std.proofs.lemmas.List.{map-append, length-set, get_or-set_same, set-get_or, set-set}
use Rattle.std.proofs.lemmas.Bool.{cases_Bool}
use Rattle.alm_lines.specs.Line.{line_of}
use Rattle.alm_lines.specs.Stream.{is_end, held_after, held_behind}
use Rattle.alm_desk.specs.Answers.{DeskState, SlotLine, replies}
use Rattle.alm_desk.specs.Failing.{BreaksOff}
use Rattle.alm_desk.specs.Feeding.{lines_at, line_asked, IsFedAt}
use Rattle.alm_desk.specs.Desks.{Desk, Tagged, byte_of_slot, bytes_of_slot, line_held_at, after_byte, held_by, lines_among, IsFed, ClosesAfter}
use Rattle.alm_desk.specs.declared.desk_fault.DeskFault.{DeskFault}
use Rattle.alm_desk.specs.declared.desk_fault.DeskFault.TheVariants.{Write, Closed}
use Rattle.alm_desk.proofs.Pieces.{replies-append, after_all-append}

-- what comes at one slot ends the lines of that slot
same_at : (helds : List (List ℕ)) (slot : ℕ) (x : List ℕ) → slot < length helds → line_held_at (slice_set helds slot x) slot ≡ x
same_at helds slot x h = get_or-set_same helds slot x [] h

-- the bytes of a slot after the first one
moved : (slot : ℕ) (helds : List (List ℕ)) (bytes : List ℕ) (x : List ℕ) → slot < length helds
    → slice_set (slice_set helds slot x) slot (held_behind (line_held_at (slice_set helds slot x) slot) bytes) ≡ slice_set helds slot (held_behind x bytes)
moved slot helds bytes x h = set-set helds slot x (held_behind (line_held_at (slice_set helds slot x) slot) bytes) ∙ ap (λ (y : List ℕ). slice_set helds slot (held_behind y bytes)) (same_at helds slot x h)

kept_in : (slot : ℕ) (helds : List (List ℕ)) (x : List ℕ) → slot < length helds → slot < length (slice_set helds slot x)
kept_in slot helds x h = omega (arith, length-set helds slot x)

pub one_held : (slot : ℕ) (helds : List (List ℕ)) (bytes : List ℕ) → slot < length helds → held_by helds (bytes_of_slot slot bytes) ≡ slice_set helds slot (held_behind (line_held_at helds slot) bytes)
one_held slot helds [] h = sym (set-get_or helds slot [])
one_held slot helds (b ∷ bytes) h =
    let x = held_after (line_held_at helds slot) b in
    one_held slot (slice_set helds slot x) bytes (kept_in slot helds x h) ∙ moved slot helds bytes x h

-- what one byte adds to the lines
more_in : Bool → List (List ℕ) → Tagged → List SlotLine → List SlotLine
more_in ends helds t rest = if ends then record { slot = t.slot; line = line_of (line_held_at helds t.slot) } ∷ rest else rest

lines_in-step : (helds : List (List ℕ)) (t : Tagged) (ts : List Tagged) → lines_among helds (t ∷ ts) ≡ more_in (is_end t.byte) helds t (lines_among (after_byte helds t) ts)
unfolding more_in
lines_in-step helds t ts = refl

lines_at-step : (slot : ℕ) (helds : List (List ℕ)) (b : ℕ) (bytes : List ℕ) → lines_at slot (line_held_at helds slot) (b ∷ bytes) ≡ more_in (is_end b) helds (byte_of_slot slot b) (lines_at slot (held_after (line_held_at helds slot) b) bytes)
unfolding more_in
lines_at-step slot helds b bytes =
    elim (cases_Bool (is_end b)) [ inl e ↦ rw e refl | inr e ↦ rw e refl ]

pub one_slot : (slot : ℕ) (helds : List (List ℕ)) (bytes : List ℕ) → slot < length helds → lines_among helds (bytes_of_slot slot bytes) ≡ lines_at slot (line_held_at helds slot) bytes
one_slot slot helds [] h = refl
one_slot slot helds (b ∷ bytes) h =
    let x = held_after (line_held_at helds slot) b in
    let rest : lines_among (slice_set helds slot x) (bytes_of_slot slot bytes) ≡ lines_at slot x bytes =
    one_slot slot (slice_set helds slot x) bytes (kept_in slot helds x h) ∙ ap (λ (y : List ℕ). lines_at slot y bytes) (same_at helds slot x h) in
    lines_in-step helds (byte_of_slot slot b) (bytes_of_slot slot bytes) ∙ ap (more_in (is_end b) helds (byte_of_slot slot b)) rest ∙ sym (lines_at-step slot helds b bytes)

-- bytes in two parts
more_in-append : (ends : Bool) (helds : List (List ℕ)) (t : Tagged) (xs ys : List SlotLine) → more_in ends helds t (xs ++ ys) ≡ more_in ends helds t xs ++ ys
unfolding more_in
more_in-append true helds t xs ys = refl
more_in-append false helds t xs ys = refl

lines_in-append : (helds : List (List ℕ)) (xs ys : List Tagged) → lines_among helds (xs ++ ys) ≡ lines_among helds xs ++ lines_among (held_by helds xs) ys
lines_in-append helds [] ys = refl
lines_in-append helds (t ∷ xs) ys =
    lines_in-step helds t (xs ++ ys) ∙ ap (more_in (is_end t.byte) helds t) (lines_in-append (after_byte helds t) xs ys)
    ∙ more_in-append (is_end t.byte) helds t (lines_among (after_byte helds t) xs) (lines_among (held_by (after_byte helds t) xs) ys)
    ∙ sym (ap (λ (l : List SlotLine). l ++ lines_among (held_by (after_byte helds t) xs) ys) (lines_in-step helds t xs))

held_by-append : (helds : List (List ℕ)) (xs ys : List Tagged) → held_by helds (xs ++ ys) ≡ held_by (held_by helds xs) ys
held_by-append helds [] ys = refl
held_by-append helds (t ∷ xs) ys = held_by-append (after_byte helds t) xs ys

-- nothing was fed
pub fed_none : (d : Desk) (o : Option (List ℕ)) → d.closed ≡ false → IsFed d [] o d o
fed_none d o h = record { answered = []; lines = refl; written = Appends-nil o; standing = refl; held = refl; open_before = h; open_later = h }

-- bytes are fed, and then others
pub joined : {a b c : Desk} {xs ys : List Tagged} {o m n : Option (List ℕ)} → IsFed a xs o b m → IsFed b ys m c n → IsFed a (xs ++ ys) o c n
joined {a} {b} {c} {xs} {ys} {o} {m} {n} p q = record {
  answered = p.answered ++ q.answered;
  lines = rw (map-append line_asked p.answered q.answered, p.lines, q.lines, p.held) (sym (lines_in-append a.helds xs ys));
  written = rw (replies-append a.standing p.answered q.answered, ← p.standing) (Appends-trans o m n (replies a.standing p.answered) (replies b.standing q.answered) p.written q.written);
  standing = rw (after_all-append a.standing p.answered q.answered, ← p.standing) q.standing;
  held = rw (held_by-append a.helds xs ys, ← p.held) q.held;
  open_before = p.open_before;
  open_later = q.open_later;
}

-- bytes at one slot
pub fed_at : (before later : Desk) (slot : ℕ) (bytes : List ℕ) (o n : Option (List ℕ)) (held holds : List ℕ) → slot < length before.helds
    → before.closed ≡ false → later.closed ≡ false → held ≡ line_held_at before.helds slot → later.helds ≡ slice_set before.helds slot holds
    → IsFedAt slot before.standing held bytes o later.standing holds n → IsFed before (bytes_of_slot slot bytes) o later n
fed_at before later slot bytes o n held holds h cb cl hb hl p = record {
  answered = p.answered;
  lines = p.lines ∙ ap (λ (x : List ℕ). lines_at slot x bytes) hb ∙ sym (one_slot slot before.helds bytes h);
  written = p.written;
  standing = p.standing;
  held = hl ∙ ap (slice_set before.helds slot) (p.left ∙ ap (λ (x : List ℕ). held_behind x bytes) hb) ∙ sym (one_held slot before.helds bytes h);
  open_before = cb;
  open_later = cl;
}

-- a writer that fails on the way, at one slot
pub broken_at : {before later : DeskState} {o n : Option (List ℕ)} (helds : List (List ℕ)) (slot : ℕ) (bytes held : List ℕ) → slot < length helds → held ≡ line_held_at helds slot
    → BreaksOff before (lines_at slot held bytes) o later n → BreaksOff before (lines_among helds (bytes_of_slot slot bytes)) o later n
broken_at {before} {later} {o} {n} helds slot bytes held h e p = rw (one_slot slot helds bytes h, ← e) p

-- the first, then what is broken off, and then the others
in_order : (xs ys : List SlotLine) (last : SlotLine) (others zs : List SlotLine) → (xs ++ (ys ++ last ∷ others)) ++ zs ≡ (xs ++ ys) ++ last ∷ (others ++ zs)
in_order xs ys last others zs =
    append_assoc xs (ys ++ last ∷ others) zs ∙ ap (λ (t : List SlotLine). xs ++ t) (append_assoc ys (last ∷ others) zs) ∙ sym (append_assoc xs ys (last ∷ (others ++ zs)))

-- bytes are fed, and the writer fails in the next ones
pub broken_later : {a b : Desk} {later : DeskState} {xs : List Tagged} {o m n : Option (List ℕ)} (ys zs : List Tagged)
    → IsFed a xs o b m → BreaksOff b.standing (lines_among b.helds ys) m later n → BreaksOff a.standing (lines_among a.helds ((xs ++ ys) ++ zs)) o later n
broken_later {a} {b} {later} {xs} {o} {m} {n} ys zs p q =
    let rest = lines_among (held_by a.helds (xs ++ ys)) zs in
    let all = lines_in-append a.helds (xs ++ ys) zs ∙ ap (λ (t : List SlotLine). t ++ rest) (lines_in-append a.helds xs ys) in
    let heads : lines_among a.helds xs ++ lines_among (held_by a.helds xs) ys ≡ map line_asked p.answered ++ (map line_asked q.answered ++ q.last ∷ q.others) = rw (p.lines, ← q.all, p.held) refl in
    record {
      answered = p.answered ++ q.answered;
      last = q.last;
      others = q.others ++ rest;
      all = all ∙ ap (λ (t : List SlotLine). t ++ rest) heads ∙ in_order (map line_asked p.answered) (map line_asked q.answered) q.last q.others rest ∙ ap (λ (t : List SlotLine). t ++ q.last ∷ (q.others ++ rest)) (sym (map-append line_asked p.answered q.answered));
      between = q.between;
      written = rw (replies-append a.standing p.answered q.answered, ← p.standing) (Appends-trans o m q.between (replies a.standing p.answered) (replies b.standing q.answered) p.written q.written);
      cut = rw (after_all-append a.standing p.answered q.answered, ← p.standing) q.cut;
    }

-- an open desk fails by its writer
pub only_writer : (e : DeskFault) (was is : Bool) (old new : ℕ) → was ≡ false → ClosesAfter e was is old new → e ≡ Write
only_writer Write was is old new h p = refl
only_writer Closed was is old new h p = cc

pub never_closed : {P : Type 0} (r : Result ⊤ DeskFault) (was is : Bool) (old new : ℕ) → was ≡ false → IfErr r (λ e. ClosesAfter e was is old new) → r ≡ Err Closed → P
never_closed {P} r was is old new h p e = let q = rw e at p in cc
