-- Each step keeps the rule of a history that has one writer.
use Rattle.std.proofs.Common.{◌≡◌, ℕ, zero, suc, ◌<◌, ◌==◌, Bool, true, false, List, [], ◌∷◌, ◌++◌, length, refl, ap, sym, ◌∙◌, subst, arith, inl, None, slice_set}
use Rattle.std.specs.Prelude.{◌≢◌}
use Rattle.std.proofs.lemmas.List.{append-nil, get_or-set_same, get_or-set_other, length-set}
use Rattle.std.proofs.lemmas.Bool.Decides.{nat_tests}
use prog.Atomic.{either}
use Rattle.logbook.specs.Pages.{Cell, cell, keeps, gives, adds, Nib, nib, may_write, no_nib, step, Moves, Goes}
use Rattle.alm_history.specs.declared.marked.Marked.{Marked}
use Rattle.alm_history.specs.Kept.{key_after, next_key, AreUsed, IsKept, Appends, BeginsLog, GivesPen}

abbrev pub shown : {E : Type 0} → List (Marked E) → List (Marked E)
shown log = []

abbrev pub moved : {E : Type 0} → List (Marked E) → List (Marked E) → ℕ → Type 0
moved xs ys n = Unit {0}

-- an exchange of a number for itself changes nothing
stays : (k n : ℕ) (b : Bool) → (n == k) ≡ b → either (n == k) k n ≡ n
stays k n true is = rw is (grind (arith, nat_tests))
stays k n false is = rw is refl

-- where a word is at home, there is one
some_home : (cs : List Cell) → (cell cs 0).1 ≡ true → 0 < length cs
some_home [] home = absurd (cc (home))
some_home (c ∷ cs) home = omega arith

set_home : (cs : List Cell) (k n j : ℕ) → (cell cs j).1 ≡ true → (cell (slice_set cs k (n, true)) j).1 ≡ true
set_home [] k n j home = home
set_home (c ∷ cs) zero n zero home = refl
set_home (c ∷ cs) zero n (suc j) home = home
set_home (c ∷ cs) (suc k) n zero home = home
set_home (c ∷ cs) (suc k) n (suc j) home = set_home cs k n j home

append_home : (cs ds : List Cell) (j : ℕ) → (cell cs j).1 ≡ true → (cell (cs ++ ds) j).1 ≡ true
append_home [] ds j home = absurd (cc (home))
append_home (c ∷ cs) ds zero home = home
append_home (c ∷ cs) ds (suc j) home = append_home cs ds j home

append_first : (cs ds : List Cell) (n : ℕ) → cell cs 0 ≡ (n, true) → cell (cs ++ ds) 0 ≡ (n, true)
append_first [] ds n is = absurd (cc (ap (λ c. c.1) is))
append_first (c ∷ cs) ds n is = is

set_first : (cs : List Cell) (n : ℕ) → 0 < length cs → cell (slice_set cs 0 (n, true)) 0 ≡ (n, true)
set_first [] n some = absurd (omega (arith, some))
set_first (c ∷ cs) n some = refl

-- a pen by its parts
pub nib_is : (p : Nib) (key : ℕ) → p.right ≡ may_write → p.key ≡ key → p.value ≡ 0 → p ≡ nib may_write key 0
nib_is p key may at none i = nib (may i) (at i) (none i)

pair_is : (n : ℕ) (c : Cell) → n ≡ c.0 → c.1 ≡ true → (n, true) ≡ c
pair_is n c same home i = (same i, sym home i)

module _ {E : Type 0} where
  used_still : (cs ds : List Cell) → ((j : ℕ) → (cell cs j).1 ≡ true → (cell ds j).1 ≡ true) → (key : ℕ) (log : List (Marked E)) → AreUsed cs key log → AreUsed ds key log
  used_still cs ds all key [] used = tt
  used_still cs ds all key (m ∷ log) used = (all key used.0, used_still cs ds all m.next log used.1)

  used_more : (cs : List Cell) (key : ℕ) (log : List (Marked E)) (e : Marked E) → AreUsed cs key log → (cell cs (key_after key log)).1 ≡ true → AreUsed cs key (log ++ e ∷ [])
  used_more cs key [] e used home = (home, tt)
  used_more cs key (m ∷ log) e used home = (used.0, used_more cs m.next log e used.1 home)

  -- while the pen of the last entry's word isn't used up, no entry follows
  whole : (cs : List Cell) (key : ℕ) (seen rest : List (Marked E)) → AreUsed cs key (seen ++ rest) → (cell cs (key_after key seen)).1 ≡ false → rest ≡ []
  whole cs key [] [] used away = refl
  whole cs key [] (m ∷ rest) used away = absurd (cc (used.0, away))
  whole cs key (m ∷ seen) rest used away = whole cs m.next seen rest used.1 away

  -- the rule outlasts what changes nothing but a word that comes home, and the head that is as it was
  kept_still : (cs ds : List Cell) → ((j : ℕ) → (cell cs j).1 ≡ true → (cell ds j).1 ≡ true) → cell ds 0 ≡ cell cs 0 → (log : List (Marked E)) → IsKept cs log → IsKept ds log
  kept_still cs ds all first [] kept = first ∙ kept
  kept_still cs ds all first (m ∷ log) kept = (first ∙ kept.0, used_still cs ds all m.next log kept.1)

  head_home : (cs : List Cell) (log : List (Marked E)) → IsKept cs log → (cell cs 0).1 ≡ true
  head_home cs [] kept = ap (λ c. c.1) kept
  head_home cs (m ∷ log) kept = ap (λ c. c.1) kept.0

  -- a pen is taken
  takes_goes : (v log : List (Marked E)) (e : Marked E) (cs : List Cell) → IsKept cs log
      → Goes IsKept shown moved 0 (v, (no_nib, None)) (λ n. either (n == 0) 0 n) (GivesPen (step 0 0 0 e) (v, (no_nib, None))) cs log
  takes_goes v log e cs kept =
      let some = some_home cs (head_home cs log kept) in
      let n = either ((cell cs 0).0 == 0) 0 (cell cs 0).0 in
      let next = slice_set cs 0 (n, true) in
      let same : n ≡ (cell cs 0).0 = stays 0 (cell cs 0).0 ((cell cs 0).0 == 0) refl in
      let first : cell next 0 ≡ (n, true) = set_first cs n some in
      let added : IsKept (next ++ (0, false) ∷ []) log =
      kept_still cs (next ++ (0, false) ∷ []) (λ j home. append_home next ((0, false) ∷ []) j (set_home cs 0 n j home))
      (append_first next ((0, false) ∷ []) n first ∙ pair_is n (cell cs 0) same (head_home cs log kept)) log kept in (
        adds,
        [],
        None,
        tt,
        subst (λ (l : List (Marked E)). IsKept (next ++ (0, false) ∷ []) l) (sym (append-nil log)) added,
        inl (refl, refl),
        refl,
      )

  pub takes_moves : (v : List (Marked E)) (e : Marked E)
      → Moves IsKept shown moved 0 (v, (no_nib, None)) (λ n. either (n == 0) 0 n) (GivesPen (step 0 0 0 e) (v, (no_nib, None)))
  takes_moves v e cs log kept pre away = (some_home cs (head_home cs log kept), head_home cs log kept, takes_goes v log e cs kept)

  -- an entry is added
  adds_goes : (m : Marked E) (v : List (Marked E)) (e : Marked E) (p : Nib) (cs : List Cell) → p.right ≡ may_write → p.key < length cs → (cell cs p.key).1 ≡ false
      → p.key ≡ key_after m.next v → IsKept cs (m ∷ v)
      → Goes IsKept shown moved 0 (m ∷ v, (p, None)) (λ n. either (n == 1) 1 n) (Appends (step 0 1 1 e) (m ∷ v, (p, None))) cs (m ∷ v)
  adds_goes m v e p cs may within away is kept =
      let some = some_home cs (head_home cs (m ∷ v) kept) in
      let n = either ((cell cs 0).0 == 1) 1 (cell cs 0).0 in
      let next = slice_set cs 0 (n, true) in
      let last = slice_set next p.key (p.value, true) in
      let one : n ≡ 1 = stays 1 (cell cs 0).0 ((cell cs 0).0 == 1) refl ∙ ap (λ c. c.0) kept.0 in
      let other : 0 ≢ p.key = λ zero. absurd (cc (zero, away, kept.0)) in
      let first : cell last 0 ≡ (1, true) = get_or-set_other next p.key 0 (p.value, true) (0, false) other ∙ (set_first cs n some ∙ ap (λ k. (k, true)) one) in
      let still : (j : ℕ) → (cell cs j).1 ≡ true → (cell last j).1 ≡ true = λ j home. set_home next p.key p.value j (set_home cs 0 n j home) in
      let used : (cell last (key_after m.next v)).1 ≡ true =
      subst (λ k. (cell last k).1 ≡ true) is (ap (λ c. c.1) (get_or-set_same next p.key (p.value, true) (0, false) (omega (arith, within, length-set cs 0 (n, true))))) in (
        gives,
        e ∷ [],
        None,
        may,
        (first, used_more last m.next v e (used_still cs last still m.next v kept.1) used),
        inl (refl, refl),
        refl,
      )

  pub adds_moves : (v : List (Marked E)) (e : Marked E) (p : Nib) → 0 < length v → p.right ≡ may_write → p.key ≡ next_key v
      → Moves IsKept shown moved 0 (v, (p, None)) (λ n. either (n == 1) 1 n) (Appends (step 0 1 1 e) (v, (p, None)))
  adds_moves [] e p some may is cs log kept pre away = absurd (omega (arith, some))
  adds_moves (m ∷ v) e p some may is cs log kept pre away =
      let a = away may in
      let all : IsKept cs (m ∷ (v ++ pre.0)) = subst (λ (l : List (Marked E)). IsKept cs l) (sym pre.1) kept in
      let none : pre.0 ≡ [] = whole cs m.next v pre.0 all.1 (ap (λ k. (cell cs k).1) (sym is) ∙ a.1) in
      let same : m ∷ v ≡ log = sym (append-nil (m ∷ v)) ∙ (ap (λ l. (m ∷ v) ++ l) (sym none) ∙ pre.1) in
      let here : IsKept cs (m ∷ v) = subst (λ (l : List (Marked E)). IsKept cs l) (sym same) kept in (
        some_home cs (head_home cs log kept),
        head_home cs log kept,
        subst (λ (l : List (Marked E)). Goes IsKept shown moved 0 (m ∷ v, (p, None)) (λ n. either (n == 1) 1 n) (Appends (step 0 1 1 e) (m ∷ v, (p, None))) cs l) same
            (adds_goes m v e p cs may a.0 a.1 is here),
      )

  -- a history begins, if it hasn't
  begins_goes : (e : Marked E) (log : List (Marked E)) (cs : List Cell) → IsKept cs log
      → Goes IsKept shown moved 0 ([], (no_nib, None)) (λ n. either (n == 0) 1 n) (BeginsLog (step 0 0 1 e) ([], (no_nib, None))) cs log
  begins_goes e [] cs kept =
      let some = some_home cs (ap (λ c. c.1) kept) in
      let n : either ((cell cs 0).0 == 0) 1 (cell cs 0).0 ≡ 1 = rw kept refl in (
        keeps,
        e ∷ [],
        None,
        tt,
        (set_first cs (either ((cell cs 0).0 == 0) 1 (cell cs 0).0) some ∙ ap (λ k. (k, true)) n, tt),
        inl (refl, refl),
        rw kept refl,
      )
  begins_goes e (m ∷ log) cs kept =
      let some = some_home cs (ap (λ c. c.1) kept.0) in
      let k = either ((cell cs 0).0 == 0) 1 (cell cs 0).0 in
      let n : k ≡ 1 = rw kept.0 refl in
      let next = slice_set cs 0 (k, true) in (
        keeps,
        [],
        None,
        tt,
        (
          set_first cs k some ∙ ap (λ i. (i, true)) n,
          used_still cs next (λ j home. set_home cs 0 k j home) m.next (log ++ []) (subst (λ (l : List (Marked E)). AreUsed cs m.next l) (sym (append-nil log)) kept.1),
        ),
        inl (refl, refl),
        rw kept.0 tt,
      )

  pub begins_moves : (e : Marked E) → Moves IsKept shown moved 0 ([], (no_nib, None)) (λ n. either (n == 0) 1 n) (BeginsLog (step 0 0 1 e) ([], (no_nib, None)))
  begins_moves e cs log kept pre away = (some_home cs (head_home cs log kept), head_home cs log kept, begins_goes e log cs kept)
