-- From a new plant on the condensed plant measures what is counted from all annunciations.
use Rattle.std.proofs.Common.{◌≡◌, ℕ, ◌+◌, ◌<◌, ◌≤◌, min, Bool, true, false, cond, List, [], ◌∷◌, length, map, take, replicate, sum, suc, zero, refl, sym, ap, ◌∙◌, arith, inl, inr, Some, None}
use Rattle.std.specs.Prelude.{slice_get, filter, nat_le, nat_lt, ◌==◌, ◌&&◌}
use Rattle.std.specs.List.{range_with_len}
use Rattle.std.proofs.lemmas.Grind.{common_steps}
use Rattle.std.proofs.lemmas.Bool.{cases_Bool}
use Rattle.std.proofs.lemmas.List.{length-replicate}
use Rattle.std.proofs.lemmas.List.Sums.{sum_by-cons}
use borrow.Author.Tests.{ltb-false, le-ltb}
use Rattle.alm_types.specs.Tables.{Listing, IsTable}
use Rattle.alm_types.specs.declared.attr.Attr.{Attr}
use Rattle.alm_types.specs.declared.action.Action.{Action}
use Rattle.alm_state.specs.Rows.{State}
use Rattle.alm_model.specs.Plant.{Panel, RecordedPlant, Condensed, History, Annunciation}
use Rattle.alm_model.specs.Accept.{refusal}
use Rattle.alm_model.specs.Condense.{condense, IsRecorded, of_age, moments_of}
use Rattle.alm_model.specs.Counted.{new_whole, run_whole, last_minute, chattering, stale, IsCounted}
use Rattle.alm_model.specs.Lists.{is_frequent, is_old, moments_in, alarms, is_one, stands_in, list_of}
use Rattle.alm_model.specs.declared.list.List.TheVariants.{Stale, Chatter}
use Rattle.alm_model.specs.New.{new_plant}
use Rattle.alm_model.specs.Rules.{KeepsRules, IsTimely, IsFalling, AreAdmitted}
use Rattle.alm_model.specs.Step.{after, step, run}
use Rattle.alm_model.proofs.Kept.{step-keeps, new-keeps}
use Rattle.alm_model.proofs.Members.{Has, filter-Has, range-Has}
use Rattle.alm_model.proofs.Together.{cond-after, falling-after, past-recorded, cond-windows}

-- moments that rise out of a test stay out of it
none-frequent : (now m : ℕ) (ms : List ℕ) → m + 60 ≤ now → IsFalling m ms → filter (λ x. nat_lt now (x + 60)) ms ≡ []
none-frequent now m [] h f = refl
none-frequent now m (x ∷ ms) h f =
    let l = f.0 in
    let no : nat_lt now (x + 60) ≡ false = le-ltb now (x + 60) (omega arith) in
    rw no (none-frequent now x ms (omega arith) f.1)

-- the last n moments of the last minute
frequent-take : (n now t : ℕ) (ms : List ℕ) → IsFalling t ms → length (filter (λ x. nat_lt now (x + 60)) (take n ms)) ≡ min n (length (filter (λ x. nat_lt now (x + 60)) ms))
frequent-take zero now t ms f = omega arith
frequent-take (suc n) now t [] f = omega arith
frequent-take (suc n) now t (m ∷ ms) f = elim (cases_Bool (nat_lt now (m + 60))) [
  | inl hit ↦ (let rest = frequent-take n now m ms f.1 in rw hit (omega arith))
  | inr miss ↦ (let le : m + 60 ≤ now = ltb-false now (m + 60) miss in
      let none = none-frequent now m ms le f.1 in
      let rest = frequent-take n now m ms f.1 in
      let zero-length : length (filter (λ x. nat_lt now (x + 60)) ms) ≡ 0 = ap length none in
      rw miss (omega arith))
]

-- an alarm's moments of the last minute are its annunciations of the last minute
frequent-more : (p : Panel) (a : Annunciation) (h : History) (i : ℕ) → length (filter (λ x. nat_lt p.now (x + 60)) (moments_of h i)) ≡ last_minute p h i
    → length (filter (λ x. nat_lt p.now (x + 60)) (moments_of (a ∷ h) i)) ≡ cond ((a.alarm == i) && nat_lt p.now (a.moment + 60)) 1 0 + last_minute p h i
frequent-more p a h i rest = elim (cases_Bool (a.alarm == i)) [
  | inl hit ↦ elim (cases_Bool (nat_lt p.now (a.moment + 60))) [
    | inl near ↦ rw (hit, near) (omega arith)
    | inr old ↦ rw (hit, old) (omega arith)
  ]
  | inr miss ↦ rw miss (omega arith)
]

frequent-count : (p : Panel) (h : History) (i : ℕ) → length (filter (λ x. nat_lt p.now (x + 60)) (moments_of h i)) ≡ last_minute p h i
frequent-count p [] i = refl
frequent-count p (a ∷ h) i = frequent-more p a h i (frequent-count p h i) ∙ sym (sum_by-cons _ a h)

-- the moments of an alarm fall
falling-weaker : (now t : ℕ) (ms : List ℕ) → now ≤ t → IsFalling now ms → IsFalling t ms
falling-weaker now t [] l f = tt
falling-weaker now t (m ∷ ms) l f = let k = f.0 in (omega arith, f.1)

moments-fall : (now : ℕ) (h : History) (i : ℕ) → IsRecorded now h → IsFalling now (moments_of h i)
moments-fall now [] i r = tt
moments-fall now (a ∷ h) i r = elim (a.alarm == i) as (λ b. IsFalling now (map (λ x. x.moment) (cond b (a ∷ filter (λ x. x.alarm == i) h) (filter (λ x. x.alarm == i) h)))) [
  | true ↦ (r.0, moments-fall a.moment h i r.1)
  | false ↦ falling-weaker a.moment now (moments_of h i) r.0 (moments-fall a.moment h i r.1)
]

le-min : (n : ℕ) → nat_le 3 (min 3 n) ≡ nat_le 3 n
le-min n = grind (arith, common_steps)

frequent-same : (p : Panel) (h : History) (i : ℕ) → IsRecorded p.now h → is_frequent p.now (take 3 (moments_of h i)) ≡ nat_le 3 (last_minute p h i)
frequent-same p h i r =
    ap (nat_le 3) (frequent-take 3 p.now p.now (moments_of h i) (moments-fall p.now h i r)) ∙ le-min (length (filter (λ x. nat_lt p.now (x + 60)) (moments_of h i))) ∙ ap (nat_le 3) (frequent-count p h i)

old-same : (now : ℕ) (ms : List ℕ) → is_old now (take 3 ms) ≡ is_old now ms
old-same now [] = refl
old-same now (m ∷ ms) = refl

-- tests that agree on a list's numbers
filter-same : (p q : ℕ → Bool) (xs : List ℕ) → ((x : ℕ) → Has x xs → p x ≡ q x) → filter p xs ≡ filter q xs
filter-same p q [] h = refl
filter-same p q (x ∷ xs) h = let first = h x (inl refl) in let rest = filter-same p q xs (λ y k. h y (inr k)) in rw (first, rest) refl

get-map : {A : Type 0} (f : ℕ → A) (a n i : ℕ) → i < n → slice_get (map f (range_with_len a n)) i ≡ Some (f (a + i))
get-map f a zero i l = absurd (omega arith)
get-map f a (suc n) zero l = let e : a + 0 ≡ a = omega arith in rw e refl
get-map f a (suc n) (suc i) l = let e : (a + 1) + i ≡ a + suc i = omega arith in rw (← e) (get-map f (a + 1) n i (omega arith))

every : (p : ℕ → Bool) (xs : List ℕ) → ((x : ℕ) → Has x xs → p x ≡ true) → filter p xs ≡ xs
every p [] h = refl
every p (x ∷ xs) h = let yes = h x (inl refl) in let rest = every p xs (λ y k. h y (inr k)) in rw (yes, rest) refl

both : (attrs : List Attr) (rows : List State) (i : ℕ) → i < length attrs → i < length rows → is_one (λ a s. true) attrs rows i ≡ true
both [] rows i l m = absurd (omega arith)
both (a ∷ attrs) [] i l m = absurd (omega arith)
both (a ∷ attrs) (s ∷ rows) zero l m = refl
both (a ∷ attrs) (s ∷ rows) (suc i) l m = both attrs rows i (omega arith) (omega arith)

-- the alarms without a test
pub all-alarms : (p : Panel) → length p.attrs ≡ length p.rows → alarms (λ a s. true) p.attrs p.rows ≡ range_with_len 0 (length p.rows)
all-alarms p e = every (is_one (λ a s. true) p.attrs p.rows) (range_with_len 0 (length p.rows)) (λ x h. (let r = (range-Has x 0 (length p.rows) h).1 in both p.attrs p.rows x (omega arith) (omega arith)))

-- what is measured from the condensed plant is counted
kept-moments : (p : RecordedPlant) (i : ℕ) → i < length p.panel.attrs → moments_in (slice_get (condense p).kept.moments i) ≡ take 3 (moments_of p.kept i)
kept-moments p i l = let e : 0 + i ≡ i = omega arith in ap moments_in (get-map (λ j. take 3 (moments_of p.kept j)) 0 (length p.panel.attrs) i l) ∙ ap (λ k. take 3 (moments_of p.kept k)) e

pub chatter-same : (p : RecordedPlant) → IsRecorded p.panel.now p.kept → length p.panel.attrs ≡ length p.panel.rows → list_of Chatter (condense p) ≡ chattering p
chatter-same p r e =
    ap (filter (λ i. is_frequent p.panel.now (moments_in (slice_get (condense p).kept.moments i)))) (all-alarms p.panel e)
    ∙ filter-same (λ i. is_frequent p.panel.now (moments_in (slice_get (condense p).kept.moments i))) (λ i. nat_le 3 (last_minute p.panel p.kept i)) (range_with_len 0 (length p.panel.rows))
    (λ i h. (let k = (range-Has i 0 (length p.panel.rows) h).1 in ap (is_frequent p.panel.now) (kept-moments p i (omega arith)) ∙ frequent-same p.panel p.kept i r))

pub stale-same : (p : RecordedPlant) → length p.panel.attrs ≡ length p.panel.rows → list_of Stale (condense p) ≡ stale p
stale-same p e =
    filter-same (λ i. is_old p.panel.now (moments_in (slice_get (condense p).kept.moments i))) (λ i. is_old p.panel.now (moments_of p.kept i)) (alarms (stands_in Stale) p.panel.attrs p.panel.rows)
    (λ i h. (let k = (range-Has i 0 (length p.panel.rows) (filter-Has (is_one (stands_in Stale) p.panel.attrs p.panel.rows) i (range_with_len 0 (length p.panel.rows)) h).0).1 in
    ap (is_old p.panel.now) (kept-moments p i (omega arith)) ∙ old-same p.panel.now (moments_of p.kept i)))

-- a new plant, condensed
all-same : {A : Type 0} (f : ℕ → A) (y : A) (a n : ℕ) → ((x : ℕ) → f x ≡ y) → map f (range_with_len a n) ≡ replicate n y
all-same f y a zero h = refl
all-same f y a (suc n) h = let first = h a in let rest = all-same f y (a + 1) n h in cc

no-ages : (p : Panel) (n areas : ℕ) → map (λ area. map (of_age p [] area) (range_with_len 0 n)) (range_with_len 0 areas) ≡ replicate areas (replicate n 0)
no-ages p n areas = all-same (λ area. map (of_age p [] area) (range_with_len 0 n)) (replicate n 0) 0 areas (λ area. all-same (of_age p [] area) 0 0 n (λ age. refl))

new-cond : (t : Listing) → condense (new_whole t) ≡ new_plant t
new-cond t =
    let size : length (replicate t.areas false) ≡ t.areas = length-replicate t.areas false in
    let ages = ap (λ n. map (λ area. map (of_age (new_plant t).panel [] area) (range_with_len 0 600)) (range_with_len 0 n)) size ∙ no-ages (new_plant t).panel 600 t.areas in
    let moments = all-same (λ i. take 3 (moments_of [] i)) [] 0 (length t.alarms) (λ i. refl) in
    λ j. record { panel = (new_plant t).panel; kept = record { ages = ages j; moments = moments j }; floods = (new_plant t).floods }

-- what holds of a whole plant after any actions
pub record GoesAlong (p : RecordedPlant) (q : Condensed) : Type 0 where
  pub recorded : IsRecorded p.panel.now p.kept
  pub same : condense p ≡ q
  pub rules : KeepsRules q

along-step : (p : RecordedPlant) (q : Condensed) (a : Action) → GoesAlong p q → IsTimely a → refusal q.panel a ≡ None → GoesAlong (after p a) (step q a)
along-step p q a g timely free =
    let panel : p.panel ≡ q.panel = ap (λ c. c.panel) g.same in
    let admitted : refusal p.panel a ≡ None = ap (λ x. refusal x a) panel ∙ free in
    record {
      recorded = falling-after p a g.recorded admitted;
      same = cond-after p a (past-recorded p.panel.now p.kept g.recorded) admitted ∙ ap (λ c. step c a) g.same;
      rules = step-keeps q a g.rules timely free;
    }

along : (p : RecordedPlant) (q : Condensed) (actions : List Action) → GoesAlong p q → AreAdmitted q actions → GoesAlong (run_whole p actions) (run q actions)
along p q [] g h = g
along p q (a ∷ actions) g h = along (after p a) (step q a) actions (along-step p q a g h.0 h.1) h.2

pub along-new : (t : Listing) (actions : List Action) → IsTable t → AreAdmitted (new_plant t) actions → GoesAlong (run_whole (new_whole t) actions) (run (new_plant t) actions)
along-new t actions h all = along (new_whole t) (new_plant t) actions (record { recorded = tt; same = new-cond t; rules = new-keeps t h }) all

pub counted-along : (p : RecordedPlant) (q : Condensed) → GoesAlong p q → IsCounted p q
counted-along p q g =
    let size : length p.panel.attrs ≡ length p.panel.rows = ap (λ c. length c.panel.attrs) g.same ∙ g.rules.attrs ∙ sym (ap (λ c. length c.panel.rows) g.same) in
    record {
      same = g.same;
      windows = sym (ap (λ c. map sum c.kept.ages) g.same) ∙ cond-windows p (past-recorded p.panel.now p.kept g.recorded);
      floods = sym (ap (λ c. c.floods) g.same);
      chatter = sym (ap (list_of Chatter) g.same) ∙ chatter-same p g.recorded size;
      stale = sym (ap (list_of Stale) g.same) ∙ stale-same p size;
    }

pub counted-new : (t : Listing) (actions : List Action) → IsTable t → AreAdmitted (new_plant t) actions → IsCounted (run_whole (new_whole t) actions) (run (new_plant t) actions)
counted-new t actions h all = counted-along (run_whole (new_whole t) actions) (run (new_plant t) actions) (along-new t actions h all)
