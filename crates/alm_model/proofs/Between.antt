-- What holds of a plant within an action, while shelvings of some alarms are still to end.
use Rattle.std.proofs.Common.{◌≡◌, ◌≢◌, ℕ, ◌+◌, ◌*◌, ◌^◌, ◌<◌, ◌≤◌, true, List, [], ◌∷◌, length, sum, sum_by, suc, zero, refl, sym, ap, ◌∙◌, arith, inl, inr, ◌⊎◌, Option, Some, None, subst, All, true≢false}
use Rattle.std.specs.Prelude.{slice_get, slice_set, IsTrue, Contains, fold}
use Rattle.std.proofs.lemmas.Bool.{cases_eq}
use Rattle.std.proofs.lemmas.Option.{none-some, same_Some, slice_get_within}
use Rattle.std.proofs.lemmas.List.{length-set}
use Rattle.alm_types.specs.declared.attr.Attr.{Attr}
use Rattle.alm_state.specs.Rows.{State, IsState, is_annunciated}
use Rattle.alm_state.specs.Suits.{suits, IsAhead}
use Rattle.alm_state.specs.Outcome.{without_shelving}
use Rattle.alm_state.specs.declared.outcome.Outcome.{Outcome}
use Rattle.alm_state.specs.declared.outcome.Outcome.TheVariants.{Changed, Annunciated, Shelved}
use Rattle.alm_state.proofs.OutcomeLaws.{IsOutcome, IsChanged, IsAnnunciated, IsShelved, unshelved-good, unshelved-ended, row_of}
use Rattle.alm_model.specs.Plant.{Condensed}
use Rattle.alm_model.specs.Keeping.{in_brief, area_of, one_younger, recent, change}
use Rattle.alm_model.specs.Rules.{IsFalling, IsAges}
use Rattle.alm_model.specs.Step.{with_outcome, with_touched_alarm, touch, unshelve}
use Rattle.alm_model.proofs.Stamps.{Stamped, stamped-after, get-set-same, get-set-other}
use Rattle.alm_model.proofs.Measured.{change-all, change-length, change-sum, change-at, change-off, falling-recent, recent-few, recent-some, ages-one_more}

-- an alarm, if the deadlines that have passed are those of alarms to come
pub record IsBetween (rest : List ℕ) (i now : ℕ) (a : Attr) (s : State) (ms : List ℕ) : Type 0 where
  pub state : IsState s
  pub suits : IsTrue (suits a.latching s.core)
  pub moments : IsFalling now ms
  pub few : length ms ≤ 3
  pub annunciated : is_annunciated s.core ≡ true → 0 < length ms
  pub longest : (d : ℕ) → s.shelved_until ≡ Some d → d ≤ now + a.max_shelve
  pub ending : (d : ℕ) → s.shelved_until ≡ Some d → d ≤ now → Contains rest i

-- a plant
pub record Between (rest : List ℕ) (q : Condensed) : Type 0 where
  pub some : 1 ≤ length q.panel.rows
  pub few : length q.panel.rows ≤ 16384
  pub attrs : length q.panel.attrs ≡ length q.panel.rows
  pub recent : length q.kept.moments ≡ length q.panel.rows
  pub areas : (1 ≤ length q.floods) × (length q.floods ≤ 64)
  pub measured : length q.kept.ages ≡ length q.floods
  pub now : q.panel.now < 2 ^ 40
  pub stamps : q.panel.next_stamp + length rest ≤ 1 + 16384 * q.panel.count
  pub ages : All (IsAges q.panel.now) q.kept.ages
  pub annunciations : sum_by sum q.kept.ages < q.panel.next_stamp
  pub in_areas : All (λ a. a.area < length q.floods) q.panel.attrs
  pub alarms : (i : ℕ) (a : Attr) (s : State) (ms : List ℕ) → slice_get q.panel.attrs i ≡ Some a → slice_get q.panel.rows i ≡ Some s → slice_get q.kept.moments i ≡ Some ms → IsBetween rest i q.panel.now a s ms
  pub stamped : Stamped q.panel.rows q.panel.next_stamp

-- the first of the rest is done
Contains-rest : {A : Type 0} (x y : A) (xs : List A) → x ≢ y → Contains (x ∷ xs) y → Contains xs y
Contains-rest x y xs d (zero, l, e) = absurd (d e)
Contains-rest x y xs d (suc k, l, e) = (k, omega arith, e)

between-other : (i j now : ℕ) (rest : List ℕ) (a : Attr) (s : State) (ms : List ℕ) → i ≢ j → IsBetween (i ∷ rest) j now a s ms → IsBetween rest j now a s ms
between-other i j now rest a s ms d h = record {
  state = h.state;
  suits = h.suits;
  moments = h.moments;
  few = h.few;
  annunciated = h.annunciated;
  longest = h.longest;
  ending = λ e same l. Contains-rest i j rest d (h.ending e same l);
}

-- an alarm whose row becomes another
module _ (rest : List ℕ) (i now stamp : ℕ) (a : Attr) (s : State) (ms : List ℕ) (old : IsBetween (i ∷ rest) i now a s ms) where
  shelving : (t : State) → (t.shelved_until ≡ s.shelved_until) ⊎ (t.shelved_until ≡ None) → (d : ℕ) → t.shelved_until ≡ Some d → s.shelved_until ≡ Some d
  shelving t (inl e) d h = sym e ∙ h
  shelving t (inr e) d h = absurd (none-some d (sym e ∙ h))

  between-stays : (t : State) → IsChanged a s t → ((d : ℕ) → t.shelved_until ≡ Some d → d ≤ now → Contains rest i) → IsBetween rest i now a t ms
  between-stays t o ending = record {
    state = o.state;
    suits = o.suits;
    moments = old.moments;
    few = old.few;
    annunciated = λ h. old.annunciated (o.annunciated h);
    longest = λ d h. old.longest d (shelving t o.shelved d h);
    ending = ending;
  }

  between-annunciated_anew : (t : State) → IsAnnunciated a stamp t → IsBetween rest i now a t (recent now ms)
  between-annunciated_anew t o = record {
    state = o.state;
    suits = o.suits;
    moments = falling-recent now ms old.moments;
    few = recent-few now ms;
    annunciated = λ h. recent-some now ms;
    longest = λ d h. absurd (none-some d (sym o.free ∙ h));
    ending = λ d h. absurd (none-some d (sym o.free ∙ h));
  }

  ahead-longest : (o : Option ℕ) (d : ℕ) → IsAhead now a.max_shelve o → o ≡ Some d → (now < d) × (d ≤ now + a.max_shelve)
  ahead-longest None d h e = absurd (none-some d e)
  ahead-longest (Some x) d h e = subst (λ n. (now < n) × (n ≤ now + a.max_shelve)) (same_Some _ _ e) h

  between-shelved : (t : State) → IsShelved a now stamp t → IsBetween rest i now a t ms
  between-shelved t o = record {
    state = o.state;
    suits = o.suits;
    moments = old.moments;
    few = old.few;
    annunciated = λ h. absurd (true≢false (sym h ∙ o.quiet));
    longest = λ d h. (ahead-longest t.shelved_until d o.ahead h).1;
    ending = λ d h l. (let k = (ahead-longest t.shelved_until d o.ahead h).0 in absurd (omega arith));
  }

-- the alarms, of which one row becomes another
alarms-put : (rest : List ℕ) (i now : ℕ) (attrs : List Attr) (rows : List State) (moments later : List (List ℕ)) (a : Attr) (s t : State)
    → slice_get attrs i ≡ Some a → slice_get rows i ≡ Some s
    → ((j : ℕ) (b : Attr) (r : State) (ms : List ℕ) → slice_get attrs j ≡ Some b → slice_get rows j ≡ Some r → slice_get moments j ≡ Some ms → IsBetween (i ∷ rest) j now b r ms)
    → ((j : ℕ) → i ≢ j → slice_get later j ≡ slice_get moments j)
    → ((ms : List ℕ) → slice_get later i ≡ Some ms → IsBetween rest i now a t ms)
    → (j : ℕ) (b : Attr) (r : State) (ms : List ℕ) → slice_get attrs j ≡ Some b → slice_get (slice_set rows i t) j ≡ Some r → slice_get later j ≡ Some ms → IsBetween rest j now b r ms
alarms-put rest i now attrs rows moments later a s t here there old off at j b r ms e f g = elim (cases_eq i j) [
  | inl same ↦ (let attr : a ≡ b = same_Some _ _ (sym here ∙ ap (slice_get attrs) same ∙ e) in
      let row : t ≡ r = same_Some _ _ (sym (get-set-same rows i s t there) ∙ ap (slice_get (slice_set rows i t)) same ∙ f) in
      let one = at ms (ap (slice_get later) same ∙ g) in
      subst (λ k. IsBetween rest k now b r ms) same (subst (λ x. IsBetween rest i now x r ms) attr (subst (λ x. IsBetween rest i now a x ms) row one)))
  | inr d ↦ between-other i j now rest b r ms d (old j b r ms e (sym (get-set-other rows i j t d) ∙ f) (sym (off j d) ∙ g))
]

-- a plant in which an alarm's row becomes another
pub between-put : (rest : List ℕ) (q : Condensed) (i : ℕ) (a : Attr) (s : State) (o : Outcome)
    → slice_get q.panel.attrs i ≡ Some a → slice_get q.panel.rows i ≡ Some s → IsOutcome a q.panel.now q.panel.next_stamp s o
    → ((d : ℕ) → (row_of o).shelved_until ≡ Some d → d ≤ q.panel.now → Contains rest i)
    → Between (i ∷ rest) q → Between rest (with_outcome in_brief q i o)
between-put rest q i a s (Changed t) here there good ending h =
    let size = length-set q.panel.rows i t in
    record {
      some = rw size h.some;
      few = rw size h.few;
      attrs = h.attrs ∙ sym size;
      recent = h.recent ∙ sym size;
      areas = h.areas;
      measured = h.measured;
      now = h.now;
      stamps = (let b = h.stamps in omega arith);
      ages = h.ages;
      annunciations = h.annunciations;
      in_areas = h.in_areas;
      alarms = alarms-put rest i q.panel.now q.panel.attrs q.panel.rows q.kept.moments q.kept.moments a s t here there h.alarms (λ j d. refl)
          (λ ms e. between-stays rest i q.panel.now q.panel.next_stamp a s ms (h.alarms i a s ms here there e) t good ending);
      stamped = stamped-after q.panel.rows i s t q.panel.next_stamp q.panel.next_stamp there (omega arith) (elim good.stamp [ inl e ↦ inl e | inr e ↦ inr (inl e) ]) h.stamped;
    }
between-put rest q i a s (Annunciated t) here there good ending h =
    let size = length-set q.panel.rows i t in
    let noted = change-length q.kept.moments i (recent q.panel.now) in
    let aged = change-length q.kept.ages (area_of q.panel i) one_younger in
    let more = change-sum q.kept.ages (area_of q.panel i) in
    record {
      some = rw size h.some;
      few = rw size h.few;
      attrs = h.attrs ∙ sym size;
      recent = noted ∙ h.recent ∙ sym size;
      areas = h.areas;
      measured = aged ∙ h.measured;
      now = h.now;
      stamps = (let b = h.stamps in omega arith);
      ages = change-all (IsAges q.panel.now) q.kept.ages (area_of q.panel i) one_younger (ages-one_more q.panel.now) h.ages;
      annunciations = (let b = h.annunciations in omega arith);
      in_areas = h.in_areas;
      alarms = alarms-put rest i q.panel.now q.panel.attrs q.panel.rows q.kept.moments (change q.kept.moments i (recent q.panel.now)) a s t here there h.alarms (λ j d. change-off q.kept.moments i j (recent q.panel.now) d)
          (λ ms e. (let was = change-at q.kept.moments i (recent q.panel.now) ms e in
          subst (λ xs. IsBetween rest i q.panel.now a t xs) was.2 (between-annunciated_anew rest i q.panel.now q.panel.next_stamp a s was.0 (h.alarms i a s was.0 here there was.1) t good)));
      stamped = stamped-after q.panel.rows i s t q.panel.next_stamp (q.panel.next_stamp + 1) there (omega arith) (inr (inr (good.new, omega arith))) h.stamped;
    }
between-put rest q i a s (Shelved t) here there good ending h =
    let size = length-set q.panel.rows i t in
    record {
      some = rw size h.some;
      few = rw size h.few;
      attrs = h.attrs ∙ sym size;
      recent = h.recent ∙ sym size;
      areas = h.areas;
      measured = h.measured;
      now = h.now;
      stamps = (let b = h.stamps in omega arith);
      ages = h.ages;
      annunciations = (let b = h.annunciations in omega arith);
      in_areas = h.in_areas;
      alarms = alarms-put rest i q.panel.now q.panel.attrs q.panel.rows q.kept.moments q.kept.moments a s t here there h.alarms (λ j d. refl)
          (λ ms e. between-shelved rest i q.panel.now q.panel.next_stamp a s ms (h.alarms i a s ms here there e) t good);
      stamped = stamped-after q.panel.rows i s t q.panel.next_stamp (q.panel.next_stamp + 1) there (omega arith) (inr (inr (good.new, omega arith))) h.stamped;
    }

-- if there is no such alarm, there was no action to do
between-none : (rest : List ℕ) (q : Condensed) (i : ℕ) → ((a : Attr) (s : State) → slice_get q.panel.attrs i ≡ Some a → slice_get q.panel.rows i ≡ Some s → ⊥) → Between (i ∷ rest) q → Between rest q
between-none rest q i none h = record {
  some = h.some;
  few = h.few;
  attrs = h.attrs;
  recent = h.recent;
  areas = h.areas;
  measured = h.measured;
  now = h.now;
  stamps = (let b = h.stamps in omega arith);
  ages = h.ages;
  annunciations = h.annunciations;
  in_areas = h.in_areas;
  alarms = λ j a s ms e f g. elim (cases_eq i j) [
    | inl same ↦ absurd (none a s (ap (slice_get q.panel.attrs) same ∙ e) (ap (slice_get q.panel.rows) same ∙ f))
    | inr d ↦ between-other i j q.panel.now rest a s ms d (h.alarms j a s ms e f g)
  ];
  stamped = h.stamped;
}

-- a plant in which something becomes of an alarm
between-touched : (rest : List ℕ) (q : Condensed) (i : ℕ) (f : Attr → State → Outcome) (oa : Option Attr) (os : Option State)
    → slice_get q.panel.attrs i ≡ oa → slice_get q.panel.rows i ≡ os
    → ((a : Attr) (s : State) → slice_get q.panel.attrs i ≡ Some a → slice_get q.panel.rows i ≡ Some s → IsOutcome a q.panel.now q.panel.next_stamp s (f a s))
    → ((a : Attr) (s : State) → slice_get q.panel.attrs i ≡ Some a → slice_get q.panel.rows i ≡ Some s → (d : ℕ) → (row_of (f a s)).shelved_until ≡ Some d → d ≤ q.panel.now → Contains rest i)
    → Between (i ∷ rest) q → Between rest (with_touched_alarm in_brief q i f oa os)
between-touched rest q i f (Some a) (Some s) e g good ending h = between-put rest q i a s (f a s) e g (good a s e g) (ending a s e g) h
between-touched rest q i f (Some a) None e g good ending h = between-none rest q i (λ b s k l. none-some s (sym g ∙ l)) h
between-touched rest q i f None os e g good ending h = between-none rest q i (λ b s k l. none-some b (sym e ∙ k)) h

pub between-touch : (rest : List ℕ) (q : Condensed) (i : ℕ) (f : Attr → State → Outcome)
    → ((a : Attr) (s : State) → slice_get q.panel.attrs i ≡ Some a → slice_get q.panel.rows i ≡ Some s → IsOutcome a q.panel.now q.panel.next_stamp s (f a s))
    → ((a : Attr) (s : State) → slice_get q.panel.attrs i ≡ Some a → slice_get q.panel.rows i ≡ Some s → (d : ℕ) → (row_of (f a s)).shelved_until ≡ Some d → d ≤ q.panel.now → Contains rest i)
    → Between (i ∷ rest) q → Between rest (touch in_brief q i f)
between-touch rest q i f good ending h = between-touched rest q i f (slice_get q.panel.attrs i) (slice_get q.panel.rows i) refl refl good ending h

moments-there : (moments : List (List ℕ)) (i : ℕ) → i < length moments → (ms : List ℕ) × (slice_get moments i ≡ Some ms)
moments-there [] i l = absurd (omega arith)
moments-there (ms ∷ moments) zero l = (ms, refl)
moments-there (ms ∷ moments) (suc i) l = moments-there moments i (omega arith)

-- the state of an existing alarm
pub state-there : (rest : List ℕ) (q : Condensed) (i : ℕ) (a : Attr) (s : State) → Between rest q → slice_get q.panel.attrs i ≡ Some a → slice_get q.panel.rows i ≡ Some s → (ms : List ℕ) × IsBetween rest i q.panel.now a s ms
state-there rest q i a s h e f =
    let inside = slice_get_within q.panel.rows i s f in
    let ms = moments-there q.kept.moments i (let r = h.recent in omega arith) in
    (ms.0, h.alarms i a s ms.0 e f ms.1)

-- the shelvings end, one after the other
pub between-unshelve : (rest : List ℕ) (q : Condensed) (i : ℕ) → Between (i ∷ rest) q → Between rest (unshelve in_brief q i)
between-unshelve rest q i h =
    between-touch rest q i (λ a s. without_shelving q.panel.next_stamp s)
    (λ a s e f. unshelved-good a q.panel.now q.panel.next_stamp s (let b = h.annunciations in omega arith) (state-there (i ∷ rest) q i a s h e f).1.state)
    (λ a s e f d g. absurd (none-some d (sym (unshelved-ended q.panel.next_stamp s) ∙ g)))
    h

pub between-fold : (rest : List ℕ) (q : Condensed) → Between rest q → Between [] (fold (unshelve in_brief) q rest)
between-fold [] q h = h
between-fold (i ∷ rest) q h = between-fold rest (unshelve in_brief q i) (between-unshelve rest q i h)
