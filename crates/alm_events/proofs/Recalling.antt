-- What is recalled of a history of accepted actions.
use Rattle.std.proofs.Common.{◌≡◌, ◌≤◌, ◌+◌, ◌-◌, ℕ, suc, Bool, true, false, List, [], ◌∷◌, ◌++◌, length, take, drop, refl, sym, ◌∙◌, ap, arith, length-append, length-drop, append_assoc, drop-drop}
use Rattle.std.proofs.lemmas.List.{drop-append-le}
use Rattle.std.proofs.lemmas.Bool.{leb-true, le-leb}
use Rattle.alm_types.specs.declared.event.Event.{Event}
use Rattle.alm_types.specs.declared.logged_action.LoggedAction.{LoggedAction}
use Rattle.alm_model.specs.Judging.{logged_actions}
use Rattle.alm_model.specs.Plant.{Condensed}
use Rattle.alm_model.specs.Step.{step, run}
use Rattle.alm_events.specs.Events.{most_kept, most_told, events_from, told_event, last, oldest, told_after, is_remembered}

pub events_length : (q : Condensed) (logged : List LoggedAction) → length (events_from q logged) ≡ length logged
events_length q [] = refl
events_length q (l ∷ logged) = ap suc (events_length (step q l.action) logged)

pub events_append : (q : Condensed) (xs ys : List LoggedAction) → events_from q (xs ++ ys) ≡ events_from q xs ++ events_from (run q (logged_actions xs)) ys
events_append q [] ys = refl
events_append q (x ∷ xs) ys = ap (λ l. told_event (step q x.action) x ∷ l) (events_append (step q x.action) xs ys)

-- the last of a list that goes on after the last of what was before
pub last_last : {A : Type 0} (k : ℕ) (xs ys : List A) → last k (last k xs ++ ys) ≡ last k (xs ++ ys)
last_last k xs ys =
    let n = length xs - k in
    let m = length (last k xs ++ ys) - k in
    let long : length (last k xs ++ ys) ≡ (length xs - n) + length ys = omega (arith, length-append (last k xs) ys, length-drop n xs) in
    let whole = length-append xs ys in
    let at : n + m ≡ length (xs ++ ys) - k = omega (arith, long, whole) in
    let within : n ≤ length xs = omega arith in
    ap (λ l. drop m l) (sym (drop-append-le n xs ys within)) ∙ (drop-drop m n (xs ++ ys) ∙ ap (λ i. drop i (xs ++ ys)) at)

-- one action more
pub events_more : (q : Condensed) (logged : List LoggedAction) (l : LoggedAction) →
    last most_kept (last most_kept (events_from q logged) ++ told_event (step (run q (logged_actions logged)) l.action) l ∷ []) ≡ last most_kept (events_from q (logged ++ l ∷ []))
events_more q logged l =
    last_last most_kept (events_from q logged) (told_event (step (run q (logged_actions logged)) l.action) l ∷ []) ∙ ap (λ es. last most_kept es) (sym (events_append q logged (l ∷ [])))

-- one action more of those that come after other events
pub events_next : (q : Condensed) (events kept : List Event) (before now : List LoggedAction) (l : LoggedAction) (y : Event) → kept ≡ last most_kept (events ++ events_from q before) → now ≡ before ++ l ∷ []
    → y ≡ told_event (step (run q (logged_actions before)) l.action) l → last most_kept (kept ++ y ∷ []) ≡ last most_kept (events ++ events_from q now)
events_next q events kept before now l y is more told_as =
    let z = told_event (step (run q (logged_actions before)) l.action) l in
    let whole : events_from q now ≡ events_from q before ++ z ∷ [] = ap (events_from q) more ∙ events_append q before (l ∷ []) in
    ap (λ es. last most_kept (es ++ y ∷ [])) is
    ∙ (ap (λ n. last most_kept (last most_kept (events ++ events_from q before) ++ n ∷ [])) told_as
    ∙ (last_last most_kept (events ++ events_from q before) (z ∷ [])
    ∙ ap (λ es. last most_kept es) (append_assoc events (events_from q before) (z ∷ []) ∙ ap (λ es. events ++ es) (sym whole))))

not_true : (b : Bool) → (b ≡ true → ⊥) → b ≡ false
not_true true never = absurd (never refl)
not_true false never = refl

module _ (base : Condensed) (logged : List LoggedAction) where
  pub kept_length : length (last most_kept (events_from base logged)) ≡ length logged - (length logged - most_kept)
  kept_length = omega (arith, length-drop (length (events_from base logged) - most_kept) (events_from base logged), events_length base logged)

  -- no more are kept than were counted
  pub count_within : length (last most_kept (events_from base logged)) ≤ base.panel.count + length logged
  count_within = omega (arith, kept_length)

module _ (base : Condensed) (logged : List LoggedAction) (kept : List Event) (count n : ℕ) (is : kept ≡ last most_kept (events_from base logged)) (counted : count ≡ base.panel.count + length logged) where
  long : length kept ≡ length logged - (length logged - most_kept)
  long = omega (arith, kept_length base logged, ap length is)

  -- the smallest number after which all are kept
  pub oldest_kept : count - length kept ≡ oldest base logged
  oldest_kept = omega (arith, long, counted)

  -- it is remembered exactly if none after it is missing among those that are kept
  pub remembered_if : count ≤ n + length kept → is_remembered base logged n ≡ true
  remembered_if le = le-leb (oldest base logged) n (omega (arith, le, long, counted))

  pub then_kept : is_remembered base logged n ≡ true → count ≤ n + length kept
  then_kept known =
      let at : oldest base logged ≤ n = leb-true (oldest base logged) n known in
      omega (arith, at, long, counted)

  pub forgotten_if : (count ≤ n + length kept → ⊥) → is_remembered base logged n ≡ false
  forgotten_if never = not_true (is_remembered base logged n) (λ known. never (then_kept known))

  -- and then those after it are reported
  pub recalls : count ≤ n + length kept → take most_told (drop (n - (count - length kept)) kept) ≡ told_after base logged n
  recalls le =
      let events = events_from base logged in
      let cut = length events - most_kept in
      let m = n - (count - length kept) in
      let at : cut + m ≡ n - base.panel.count = omega (arith, le, long, counted, events_length base logged) in
      ap (λ es. take most_told (drop m es)) is ∙ ap (λ es. take most_told es) (drop-drop m cut events ∙ ap (λ i. drop i events) at)
