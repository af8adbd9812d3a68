-- What one action leaves meets the sentences: the alarms that it annunciates, one after the other.
use Rattle.std.proofs.Common.{◌≡◌, ◌≢◌, ℕ, ◌+◌, ◌<◌, Bool, true, false, not, cond, ◌&&◌, ◌||◌, List, [], ◌∷◌, length, get_or, take, zero, suc, Option, Some, None, refl, sym, ap, ◌∙◌, subst, arith, inl, inr, true≢false}
use Rattle.std.specs.Prelude.{◌==◌, slice_get, fold, filter, count_by}
use Rattle.std.proofs.lemmas.Bool.{cases_eq, cases_Bool, eqb-true, eq-eqb}
use Rattle.std.proofs.lemmas.Bool.Decides.{nat_tests}
use Rattle.std.proofs.lemmas.List.Sums.{length-filter}
use Rattle.std.proofs.lemmas.Option.{none-some, same_Some}
use Rattle.alm_types.specs.declared.attr.Attr.{Attr}
use Rattle.alm_state.specs.Rows.{State}
use Rattle.alm_state.specs.Outcome.{without_shelving}
use Rattle.alm_state.specs.declared.core_state.Core.TheVariants.{Normal, Unack}
use Rattle.alm_state.specs.declared.outcome.Outcome.{Outcome}
use Rattle.alm_state.specs.declared.outcome.Outcome.TheVariants.{Changed, Annunciated, Shelved}
use Rattle.alm_model.specs.Plant.{Panel, Condensed}
use Rattle.alm_model.specs.Keeping.{in_brief, area_in, area_of, one_younger, recent, change, with_change}
use Rattle.alm_model.specs.Lists.{key_of, stamp, stamp_of}
use Rattle.alm_model.specs.Step.{with_outcome, with_touched_alarm, touch, unshelve}
use Rattle.alm_model.proofs.Measured.{change-off}
use Rattle.alm_model.proofs.Members.{Has, Has-filter, filter-Has}
use Rattle.alm_model.proofs.Stamps.{get-set-same}
use Rattle.alm_laws.specs.Alarm.{annunciates}
use Rattle.alm_laws.specs.Left.{is_shelved_then}
use Rattle.alm_laws.specs.Steps.{area_at}
use Rattle.alm_laws.proofs.AlarmLaws.{flags-waits}
use Rattle.alm_laws.proofs.Asking.{touch-keeps}
use Rattle.alm_laws.proofs.Moving.{ending, touch-here, touch-other, touch-attrs, fold-other}

-- ---- one alarm is touched

pub put-kept : (q : Condensed) (i : ℕ) (o : Outcome) → (with_outcome in_brief q i o).kept ≡ cond (annunciates o) (in_brief.note q.panel i q.kept) q.kept
put-kept q i (Changed s) = refl
put-kept q i (Annunciated s) = refl
put-kept q i (Shelved s) = refl

pub put-stamps : (q : Condensed) (i : ℕ) (o : Outcome) → (with_outcome in_brief q i o).panel.next_stamp ≡ q.panel.next_stamp + cond (annunciates o) 1 0 + cond (is_shelved_then o) 1 0
put-stamps q i (Changed s) = omega arith
put-stamps q i (Annunciated s) = omega arith
put-stamps q i (Shelved s) = omega arith

pub touch-is : (q : Condensed) (i : ℕ) (f : Attr → State → Outcome) (a : Attr) (s : State) → slice_get q.panel.attrs i ≡ Some a → slice_get q.panel.rows i ≡ Some s → touch in_brief q i f ≡ with_outcome in_brief q i (f a s)
touch-is q i f a s has row =
    ap (λ o. with_touched_alarm in_brief q i f o (slice_get q.panel.rows i)) has ∙ ap (λ o. with_touched_alarm in_brief q i f (Some a) o) row

-- ---- the shelving of one alarm ends

-- it is annunciated then: active, without another flag
abbrev pub is_free : State → Bool
is_free s = not s.by_design && not s.out_of_service && s.active

free-cases : (t u v : State) (d o y : Bool) → annunciates (cond (d || o) (Changed t) (cond y (Annunciated u) (Changed v))) ≡ (not d && not o && y)
free-cases t u v true o y = refl
free-cases t u v false true y = refl
free-cases t u v false false true = refl
free-cases t u v false false false = refl

quiet-cases : (t u v : State) (d o y : Bool) → is_shelved_then (cond (d || o) (Changed t) (cond y (Annunciated u) (Changed v))) ≡ false
quiet-cases t u v true o y = refl
quiet-cases t u v false true y = refl
quiet-cases t u v false false true = refl
quiet-cases t u v false false false = refl

pub free-annunciates : (n : ℕ) (s : State) → annunciates (without_shelving n s) ≡ is_free s
free-annunciates n s =
    free-cases (record s { core = Normal; shelved_until = None; stamp = 0 }) (record s { core = Unack; shelved_until = None; stamp = n }) (record s { core = Normal; shelved_until = None; stamp = 0 }) s.by_design s.out_of_service s.active

free-quiet : (n : ℕ) (s : State) → is_shelved_then (without_shelving n s) ≡ false
free-quiet n s =
    quiet-cases (record s { core = Normal; shelved_until = None; stamp = 0 }) (record s { core = Unack; shelved_until = None; stamp = n }) (record s { core = Normal; shelved_until = None; stamp = 0 }) s.by_design s.out_of_service s.active

-- an alarm whose shelving is to end
pub record IsReady (p : ℕ → Bool) (q : Condensed) (i : ℕ) : Type 0 where
  pub attr : Attr
  pub state : State
  pub has : slice_get q.panel.attrs i ≡ Some attr
  pub row : slice_get q.panel.rows i ≡ Some state
  pub test : p i ≡ is_free state

-- each of a list, once
abbrev pub AreReady : (ℕ → Bool) → Condensed → List ℕ → Type 0
AreReady p q [] = Unit {0}
AreReady p q (j ∷ list) = IsReady p q j × (Has j list → ⊥) × AreReady p q list

one-after : (p : ℕ → Bool) (q : Condensed) (j i : ℕ) → IsReady p q i → j ≢ i → IsReady p (unshelve in_brief q j) i
one-after p q j i h d = record {
  attr = h.attr;
  state = h.state;
  has = ap (λ l. slice_get l i) (touch-attrs q j (ending q)) ∙ h.has;
  row = touch-other q j i (ending q) d ∙ h.row;
  test = h.test;
}

pub all-after : (p : ℕ → Bool) (q : Condensed) (j : ℕ) (list : List ℕ) → AreReady p q list → (Has j list → ⊥) → AreReady p (unshelve in_brief q j) list
all-after p q j [] r out = tt
all-after p q j (k ∷ list) r out = (one-after p q j k r.0 (λ e. out (inl (sym e))), r.1, all-after p q j list r.2 (λ h. out (inr h)))

module _ (p : ℕ → Bool) (q : Condensed) (j : ℕ) (h : IsReady p q j) where
  next : Condensed
  next = unshelve in_brief q j

  told : Outcome
  told = without_shelving q.panel.next_stamp h.state

  tells : annunciates (without_shelving q.panel.next_stamp h.state) ≡ p j
  tells = free-annunciates q.panel.next_stamp h.state ∙ sym h.test

  one-is : unshelve in_brief q j ≡ with_outcome in_brief q j (without_shelving q.panel.next_stamp h.state)
  one-is = touch-is q j (ending q) h.attr h.state h.has h.row

  pub one-next : (unshelve in_brief q j).panel.next_stamp ≡ q.panel.next_stamp + cond (p j) 1 0
  one-next =
      ap (λ x. x.panel.next_stamp) one-is ∙ put-stamps q j (without_shelving q.panel.next_stamp h.state)
      ∙ ap (λ b. q.panel.next_stamp + cond b 1 0 + cond (is_shelved_then (without_shelving q.panel.next_stamp h.state)) 1 0) tells
      ∙ ap (λ b. q.panel.next_stamp + cond (p j) 1 0 + cond b 1 0) (free-quiet q.panel.next_stamp h.state) ∙ omega arith

  pub one-kept : (unshelve in_brief q j).kept ≡ cond (p j) (in_brief.note q.panel j q.kept) q.kept
  one-kept =
      ap (λ x. x.kept) one-is ∙ put-kept q j (without_shelving q.panel.next_stamp h.state) ∙ ap (λ b. cond b (in_brief.note q.panel j q.kept) q.kept) tells

  one-now : (unshelve in_brief q j).panel.now ≡ q.panel.now
  one-now = (touch-keeps q j (ending q)).0

  one-stamp : p j ≡ true → (list : List ℕ) → (Has j list → ⊥) → stamp_of (fold (unshelve in_brief) (unshelve in_brief q j) list).panel j ≡ q.panel.next_stamp
  one-stamp so list out =
      ap (key_of stamp) (fold-other list (unshelve in_brief q j) j out ∙ touch-here q j (ending q) h.attr h.state h.has h.row) ∙ (flags-waits q.panel.next_stamp (record h.state { shelved_until = None }) (tells ∙ so)).1

-- ---- the stamps of a list

size-more : (b : Bool) (x : ℕ) (xs : List ℕ) → length (cond b (x ∷ xs) xs) ≡ cond b 1 0 + length xs
size-more true x xs = omega arith
size-more false x xs = omega arith

pub fold-next : (p : ℕ → Bool) (list : List ℕ) (q : Condensed) → AreReady p q list → (fold (unshelve in_brief) q list).panel.next_stamp ≡ q.panel.next_stamp + length (filter p list)
fold-next p [] q r = omega arith
fold-next p (j ∷ list) q r =
    let up = one-next p q j r.0 in
    let rest = fold-next p list (unshelve in_brief q j) (all-after p q j list r.2 r.1) in
    let size = size-more (p j) j (filter p list) in
    omega (arith, up, rest, size)

stamps-first : (final : Panel) (n next j : ℕ) (xs : List ℕ) → next ≡ n + 1 → stamp_of final j ≡ n → ((k i : ℕ) → slice_get xs k ≡ Some i → stamp_of final i ≡ next + k)
    → (k i : ℕ) → slice_get (j ∷ xs) k ≡ Some i → stamp_of final i ≡ n + k
stamps-first final n next j xs up here rest zero i e = subst (λ x. stamp_of final x ≡ n + 0) (same_Some _ _ e) (omega (arith, here))
stamps-first final n next j xs up here rest (suc k) i e = let l = rest k i e in omega (arith, l, up)

pub fold-stamps : (p : ℕ → Bool) (list : List ℕ) (q : Condensed) → AreReady p q list → (k i : ℕ) → slice_get (filter p list) k ≡ Some i → stamp_of (fold (unshelve in_brief) q list).panel i ≡ q.panel.next_stamp + k
fold-stamps p [] q r k i e = absurd (none-some _ e)
fold-stamps p (j ∷ list) q r k i e =
    let rest = fold-stamps p list (unshelve in_brief q j) (all-after p q j list r.2 r.1) in
    let up = one-next p q j r.0 in
    elim (cases_Bool (p j)) [
      | inl so ↦
          let there : slice_get (j ∷ filter p list) k ≡ Some i = ap (λ b. slice_get (cond b (j ∷ filter p list) (filter p list)) k) (sym so) ∙ e in
          let more : (unshelve in_brief q j).panel.next_stamp ≡ q.panel.next_stamp + 1 = up ∙ ap (λ b. q.panel.next_stamp + cond b 1 0) so in
          stamps-first (fold (unshelve in_brief) (unshelve in_brief q j) list).panel q.panel.next_stamp (unshelve in_brief q j).panel.next_stamp j (filter p list) more (one-stamp p q j r.0 so list r.1) rest k i there
      | inr isnt ↦
          let there : slice_get (filter p list) k ≡ Some i = ap (λ b. slice_get (cond b (j ∷ filter p list) (filter p list)) k) (sym isnt) ∙ e in
          let same : (unshelve in_brief q j).panel.next_stamp ≡ q.panel.next_stamp + 0 = up ∙ ap (λ b. q.panel.next_stamp + cond b 1 0) isnt in
          let l = rest k i there in
          omega (arith, l, same)
    ]

-- ---- the last annunciations of each alarm

change-here : {A : Type 0} (xs : List A) (i : ℕ) (f : A → A) (x : A) → slice_get xs i ≡ Some x → slice_get (change xs i f) i ≡ Some (f x)
change-here xs i f x e = ap (λ o. slice_get (with_change xs i f o) i) e ∙ get-set-same xs i x (f x) e

pub note-here : (b : Bool) (q : Condensed) (i : ℕ) (ms : List ℕ) → b ≡ true → slice_get q.kept.moments i ≡ Some ms → slice_get (cond b (in_brief.note q.panel i q.kept) q.kept).moments i ≡ Some (take 3 (q.panel.now ∷ ms))
note-here true q i ms e has = change-here q.kept.moments i (recent q.panel.now) ms has
note-here false q i ms e has = absurd (true≢false (sym e))

pub note-other : (b : Bool) (q : Condensed) (j i : ℕ) → (b ≡ true → j ≢ i) → slice_get (cond b (in_brief.note q.panel j q.kept) q.kept).moments i ≡ slice_get q.kept.moments i
note-other true q j i d = change-off q.kept.moments j i (recent q.panel.now) (d refl)
note-other false q j i d = refl

filter-out : (p : ℕ → Bool) (i : ℕ) (list : List ℕ) → (Has i list → ⊥) → Has i (filter p list) → ⊥
filter-out p i list out h = out (filter-Has p i list h).0

-- in the rest of a filtered list
behind-filter : (p : ℕ → Bool) (i j : ℕ) (list : List ℕ) → Has i (filter p list) → Has i (filter p (j ∷ list))
behind-filter p i j list h = elim (p j) as (λ b. Has i (cond b (j ∷ filter p list) (filter p list))) [ true ↦ inr h | false ↦ h ]

pub fold-silent : (p : ℕ → Bool) (list : List ℕ) (q : Condensed) (i : ℕ) → AreReady p q list → (Has i (filter p list) → ⊥) → slice_get (fold (unshelve in_brief) q list).kept.moments i ≡ slice_get q.kept.moments i
fold-silent p [] q i r out = refl
fold-silent p (j ∷ list) q i r out =
    let apart : p j ≡ true → j ≢ i = λ so e. out (Has-filter p i (j ∷ list) (inl e) (sym (ap p e) ∙ so)) in
    fold-silent p list (unshelve in_brief q j) i (all-after p q j list r.2 r.1) (λ h. out (behind-filter p i j list h))
    ∙ ap (λ m. slice_get m.moments i) (one-kept p q j r.0) ∙ note-other (p j) q j i apart

pub fold-told : (p : ℕ → Bool) (list : List ℕ) (q : Condensed) (i : ℕ) (ms : List ℕ) → AreReady p q list → Has i list → p i ≡ true → slice_get q.kept.moments i ≡ Some ms
    → slice_get (fold (unshelve in_brief) q list).kept.moments i ≡ Some (take 3 (q.panel.now ∷ ms))
fold-told p [] q i ms r h so has = absurd h
fold-told p (j ∷ list) q i ms r h so has = elim (cases_eq j i) [
  | inl same ↦
      let out : Has i list → ⊥ = λ x. r.1 (subst (λ k. Has k list) (sym same) x) in
      let here : slice_get (unshelve in_brief q j).kept.moments i ≡ Some (take 3 (q.panel.now ∷ ms)) =
      subst (λ k. slice_get (unshelve in_brief q j).kept.moments k ≡ Some (take 3 (q.panel.now ∷ ms))) same
      (ap (λ m. slice_get m.moments j) (one-kept p q j r.0) ∙ note-here (p j) q j ms (ap p same ∙ so) (ap (slice_get q.kept.moments) same ∙ has)) in
      fold-silent p list (unshelve in_brief q j) i (all-after p q j list r.2 r.1) (filter-out p i list out) ∙ here
  | inr d ↦
      let later_on : Has i list = elim h [ inl e ↦ absurd (d e) | inr x ↦ x ] in
      let kept : slice_get (unshelve in_brief q j).kept.moments i ≡ Some ms = ap (λ m. slice_get m.moments i) (one-kept p q j r.0) ∙ note-other (p j) q j i (λ so. d) ∙ has in
      fold-told p list (unshelve in_brief q j) i ms (all-after p q j list r.2 r.1) later_on so kept ∙ ap (λ n. Some (take 3 (n ∷ ms))) (one-now p q j r.0)
]

-- ---- the ages of each area

-- some more of age 0
pub record IsYounger (more : ℕ) (before after : List ℕ) : Type 0 where
  pub long : length after ≡ length before
  pub each : (age : ℕ) → age < length before → get_or after age 0 ≡ get_or before age 0 + cond (age == 0) more 0

pub younger-none : (xs : List ℕ) → IsYounger 0 xs xs
younger-none xs = record { long = refl; each = λ age l. elim (age == 0) as (λ b. get_or xs age 0 ≡ get_or xs age 0 + cond b 0 0) [ true ↦ omega arith | false ↦ omega arith ] }

younger-one : (xs : List ℕ) → IsYounger 1 xs (one_younger xs)
younger-one [] = record { long = refl; each = λ age l. absurd (omega arith) }
younger-one (n ∷ xs) = record { long = refl; each = each-one n xs } where
  each-one : (n : ℕ) (xs : List ℕ) (age : ℕ) → age < length (n ∷ xs) → get_or ((n + 1) ∷ xs) age 0 ≡ get_or (n ∷ xs) age 0 + cond (age == 0) 1 0
  each-one n xs zero l = refl
  each-one n xs (suc age) l = let off : (suc age == 0) ≡ false = grind (arith, nat_tests) in rw off (omega arith)

younger-more : (m n : ℕ) (xs ys zs : List ℕ) → IsYounger m xs ys → IsYounger n ys zs → IsYounger (m + n) xs zs
younger-more m n xs ys zs f g = record {
  long = g.long ∙ f.long;
  each = λ age l. (let a = f.each age l in let size = f.long in let b = g.each age (omega (arith, l, size)) in added (age == 0) (get_or xs age 0) (get_or ys age 0) (get_or zs age 0) a b);
} where
  added : (z : Bool) (x y w : ℕ) → y ≡ x + cond z m 0 → w ≡ y + cond z n 0 → w ≡ x + cond z (m + n) 0
  added true x y w a b = omega (arith, a, b)
  added false x y w a b = omega (arith, a, b)

pub younger-area : (b t : Bool) (q : Condensed) (j area : ℕ) (ages : List ℕ) → (area_of q.panel j == area) ≡ t → slice_get q.kept.ages area ≡ Some ages
    → (after : List ℕ) × (slice_get (cond b (in_brief.note q.panel j q.kept) q.kept).ages area ≡ Some after) × IsYounger (cond (b && t) 1 0) ages after
younger-area false t q j area ages e has = (ages, has, younger-none ages)
younger-area true true q j area ages e has =
    let same : area_of q.panel j ≡ area = eqb-true (area_of q.panel j) area e in
    (one_younger ages, subst (λ k. slice_get (change q.kept.ages k one_younger) area ≡ Some (one_younger ages)) (sym same) (change-here q.kept.ages area one_younger ages has), younger-one ages)
younger-area true false q j area ages e has =
    (ages, change-off q.kept.ages (area_of q.panel j) area one_younger (λ same. true≢false (sym (eq-eqb (area_of q.panel j) area same) ∙ e)) ∙ has, younger-none ages)

pub area-same : (o : Option Attr) → area_at o ≡ area_in o
area-same None = refl
area-same (Some a) = refl

abbrev pub in_area : List Attr → ℕ → ℕ → Bool
in_area attrs area i = area_at (slice_get attrs i) == area

count-cons : (t : ℕ → Bool) (x : ℕ) (xs : List ℕ) → count_by t (x ∷ xs) ≡ cond (t x) 1 0 + count_by t xs
count-cons t x xs = sym (length-filter t (x ∷ xs)) ∙ size-more (t x) x (filter t xs) ∙ ap (λ n. cond (t x) 1 0 + n) (length-filter t xs)

pub count-more : (b : Bool) (t : ℕ → Bool) (x : ℕ) (xs : List ℕ) → count_by t (cond b (x ∷ xs) xs) ≡ cond (b && t x) 1 0 + count_by t xs
count-more true t x xs = count-cons t x xs
count-more false t x xs = omega arith

pub fold-ages : (p : ℕ → Bool) (list : List ℕ) (q : Condensed) (area : ℕ) (ages : List ℕ) → AreReady p q list → slice_get q.kept.ages area ≡ Some ages
    → (after : List ℕ) × (slice_get (fold (unshelve in_brief) q list).kept.ages area ≡ Some after) × IsYounger (count_by (in_area q.panel.attrs area) (filter p list)) ages after
fold-ages p [] q area ages r has = (ages, has, younger-none ages)
fold-ages p (j ∷ list) q area ages r has =
    let t = in_area q.panel.attrs area in
    let one = younger-area (p j) (t j) q j area ages (ap (λ n. n == area) (sym (area-same (slice_get q.panel.attrs j)))) has in
    let kept : slice_get (unshelve in_brief q j).kept.ages area ≡ Some one.0 = ap (λ m. slice_get m.ages area) (one-kept p q j r.0) ∙ one.1 in
    let rest = fold-ages p list (unshelve in_brief q j) area one.0 (all-after p q j list r.2 r.1) kept in
    let same : count_by (in_area (unshelve in_brief q j).panel.attrs area) (filter p list) ≡ count_by t (filter p list) = ap (λ l. count_by (in_area l area) (filter p list)) (touch-attrs q j (ending q)) in
    let more : cond (p j && t j) 1 0 + count_by (in_area (unshelve in_brief q j).panel.attrs area) (filter p list) ≡ count_by t (filter p (j ∷ list)) =
    ap (λ n. cond (p j && t j) 1 0 + n) same ∙ sym (count-more (p j) t j (filter p list)) in
    (rest.0, rest.1, subst (λ n. IsYounger n ages rest.0) more (younger-more (cond (p j && t j) 1 0) (count_by (in_area (unshelve in_brief q j).panel.attrs area) (filter p list)) ages one.0 rest.0 one.2 rest.2))
