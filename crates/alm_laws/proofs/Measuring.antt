-- The lists of measures, and floods.
use Rattle.std.proofs.Common.{◌≡◌, ℕ, ◌+◌, ◌≤◌, ◌<◌, Bool, true, false, List, [], ◌∷◌, length, Option, Some, None, zero, suc, refl, sym, ap, ◌∙◌, arith, true≢false}
use Rattle.std.specs.Prelude.{◌↔◌, ◌==◌, slice_get, Contains, map, sum, fold}
use Rattle.std.specs.List.{range_with_len}
use Rattle.std.proofs.lemmas.Bool.{leb-true, le-leb}
use Rattle.std.proofs.lemmas.Bool.Decides.{nat_tests}
use Rattle.std.proofs.lemmas.Option.{none-some, same_Some, slice_get_within}
use Rattle.alm_types.specs.declared.attr.Attr.{Attr}
use Rattle.alm_types.specs.declared.action.Action.{Action}
use Rattle.alm_types.specs.declared.action.Action.TheVariants.{Clock, Value, Ack, Reset, Shelve, Unshelve, Oos, Design, SetPriority, SetSetpoint}
use Rattle.alm_types.specs.declared.role.Role.TheVariants as role
use Rattle.alm_types.specs.Slots.{role_of}
use Rattle.alm_state.specs.Rows.{State, is_annunciated}
use Rattle.alm_state.specs.Outcome.{outcome}
use Rattle.alm_state.specs.declared.outcome.Outcome.{Outcome}
use Rattle.alm_state.specs.declared.outcome.Outcome.TheVariants.{Changed, Annunciated, Shelved}
use Rattle.alm_model.specs.Plant.{Condensed}
use Rattle.alm_model.specs.Keeping.{in_brief}
use Rattle.alm_model.specs.Lists.{list_of, alarms, stands_in, is_one, passes, is_old, is_frequent, moments_in, due}
use Rattle.alm_model.specs.Step.{with_outcome, with_touched_alarm, touch, unshelve, later, with_effect, with_one_more, step, settled_floods, is_flood}
use Rattle.alm_model.specs.declared.list.List.TheVariants.{Stale, Chatter}
use Rattle.alm_model.proofs.Members.{Has-from, Contains-from, Has-filter, filter-Has, Has-range}
use Rattle.alm_laws.specs.Listed.{IsStale, is_flooded_by, in_last_minute}
use Rattle.alm_laws.specs.Plant.{IsAlarmOf}
use Rattle.alm_laws.proofs.Moving.{ending}

-- ---- stale alarms

old-so : (q : Condensed) (o : Option (List ℕ)) → is_old q.panel.now (moments_in o) ≡ true → (last : ℕ) × (earlier : List ℕ) × (o ≡ Some (last ∷ earlier)) × (last + 86400 ≤ q.panel.now)
old-so q (Some (m ∷ ms)) e = (m, ms, refl, leb-true (m + 86400) q.panel.now e)
old-so q (Some []) e = absurd (true≢false (sym e))
old-so q None e = absurd (true≢false (sym e))

module _ (q : Condensed) (i : ℕ) (a : Attr) (s : State) (h : IsAlarmOf q i a s) where
  all-numbers : List ℕ
  all-numbers = range_with_len 0 (length q.panel.rows)

  test-at : is_one (stands_in Stale) q.panel.attrs q.panel.rows i ≡ is_annunciated s.core
  test-at = ap (λ o. passes (stands_in Stale) o (slice_get q.panel.rows i)) h.attr ∙ ap (passes (stands_in Stale) (Some a)) h.row

  stale-there : Contains (list_of Stale q) i → IsStale q i s
  stale-there has =
      let outer = filter-Has (λ j. is_old q.panel.now (moments_in (slice_get q.kept.moments j))) i (alarms (stands_in Stale) q.panel.attrs q.panel.rows) (Has-from i (list_of Stale q) has) in
      let inner = filter-Has (is_one (stands_in Stale) q.panel.attrs q.panel.rows) i (range_with_len 0 (length q.panel.rows)) outer.0 in
      let old = old-so q (slice_get q.kept.moments i) outer.1 in
      (sym test-at ∙ inner.1, old.0, old.1, old.2, old.3)

  stale-in : IsStale q i s → Contains (list_of Stale q) i
  stale-in (loud, last, earlier, moments, late) =
      let within : i < length q.panel.rows = slice_get_within q.panel.rows i s h.row in
      let inner = Has-filter (is_one (stands_in Stale) q.panel.attrs q.panel.rows) i (range_with_len 0 (length q.panel.rows)) (Has-range i 0 (length q.panel.rows) (omega arith) (omega (arith, within))) (test-at ∙ loud) in
      Contains-from i (list_of Stale q) (Has-filter (λ j. is_old q.panel.now (moments_in (slice_get q.kept.moments j))) i (alarms (stands_in Stale) q.panel.attrs q.panel.rows) inner
      (ap (λ o. is_old q.panel.now (moments_in o)) moments ∙ le-leb (last + 86400) q.panel.now late))

pub stale-so : (q : Condensed) (i : ℕ) (a : Attr) (s : State) → IsAlarmOf q i a s → Contains (list_of Stale q) i ↔ IsStale q i s
stale-so q i a s h = (stale-there q i a s h, stale-in q i a s h)

-- ---- chattering alarms

chatter-one : (q : Condensed) (i : ℕ) (a : Attr) (s : State) → IsAlarmOf q i a s → is_one (stands_in Chatter) q.panel.attrs q.panel.rows i ≡ true
chatter-one q i a s h = ap (λ o. passes (stands_in Chatter) o (slice_get q.panel.rows i)) h.attr ∙ ap (passes (stands_in Chatter) (Some a)) h.row

pub chatter-so : (q : Condensed) (i : ℕ) (a : Attr) (s : State) (ms : List ℕ) → IsAlarmOf q i a s → slice_get q.kept.moments i ≡ Some ms → Contains (list_of Chatter q) i ↔ (3 ≤ in_last_minute q.panel.now ms)
chatter-so q i a s ms h e =
    let test : ℕ → Bool = λ j. is_frequent q.panel.now (moments_in (slice_get q.kept.moments j)) in
    let here : test i ≡ is_frequent q.panel.now ms = ap (λ o. is_frequent q.panel.now (moments_in o)) e in
    let within : i < length q.panel.rows = slice_get_within q.panel.rows i s h.row in
    let inner = Has-filter (is_one (stands_in Chatter) q.panel.attrs q.panel.rows) i (range_with_len 0 (length q.panel.rows)) (Has-range i 0 (length q.panel.rows) (omega arith) (omega (arith, within))) (chatter-one q i a s h) in (
      λ has. leb-true 3 (in_last_minute q.panel.now ms) (sym here ∙ (filter-Has test i (alarms (stands_in Chatter) q.panel.attrs q.panel.rows) (Has-from i (list_of Chatter q) has)).1),
      λ l. Contains-from i (list_of Chatter q) (Has-filter test i (alarms (stands_in Chatter) q.panel.attrs q.panel.rows) inner (here ∙ le-leb 3 (in_last_minute q.panel.now ms) l)),
    )

-- ---- floods

flood-is : (w : ℕ) (b : Bool) → is_flood w b ≡ is_flooded_by w b
flood-is w true = grind (arith, nat_tests)
flood-is w false = grind (arith, nat_tests)

settled-at : (ages : List (List ℕ)) (floods : List Bool) (n : ℕ) (x : List ℕ) (b : Bool) → slice_get ages n ≡ Some x → slice_get floods n ≡ Some b
    → slice_get (settled_floods (map sum ages) floods) n ≡ Some (is_flood (sum x) b)
settled-at [] floods n x b e f = absurd (none-some _ e)
settled-at (y ∷ ages) [] n x b e f = absurd (none-some _ f)
settled-at (y ∷ ages) (c ∷ floods) zero x b e f = ap (λ z. Some (is_flood (sum z) c)) (same_Some _ _ e) ∙ ap (λ z. Some (is_flood (sum x) z)) (same_Some _ _ f)
settled-at (y ∷ ages) (c ∷ floods) (suc n) x b e f = settled-at ages floods n x b e f

put-floods : (q : Condensed) (i : ℕ) (o : Outcome) → (with_outcome in_brief q i o).floods ≡ q.floods
put-floods q i (Changed s) = refl
put-floods q i (Annunciated s) = refl
put-floods q i (Shelved s) = refl

touched-floods : (q : Condensed) (i : ℕ) (f : Attr → State → Outcome) (a : Option Attr) (s : Option State) → (with_touched_alarm in_brief q i f a s).floods ≡ q.floods
touched-floods q i f (Some a) (Some s) = put-floods q i (f a s)
touched-floods q i f (Some a) None = refl
touched-floods q i f None s = refl

touch-floods : (q : Condensed) (i : ℕ) (f : Attr → State → Outcome) → (touch in_brief q i f).floods ≡ q.floods
touch-floods q i f = touched-floods q i f (slice_get q.panel.attrs i) (slice_get q.panel.rows i)

fold-floods : (list : List ℕ) (q : Condensed) → (fold (unshelve in_brief) q list).floods ≡ q.floods
fold-floods [] q = refl
fold-floods (j ∷ list) q = fold-floods list (unshelve in_brief q j) ∙ touch-floods q j (ending q)

effect-floods : (q : Condensed) (action : Action) → (with_effect in_brief q action).floods ≡ q.floods
effect-floods q (Clock t) = fold-floods (due t q.panel) (later in_brief t q)
effect-floods q (Value i v) = touch-floods q i.0 (outcome q.panel.now q.panel.next_stamp (Value i v))
effect-floods q (Ack i) = touch-floods q i.0 (outcome q.panel.now q.panel.next_stamp (Ack i))
effect-floods q (Reset i) = touch-floods q i.0 (outcome q.panel.now q.panel.next_stamp (Reset i))
effect-floods q (Shelve i n) = touch-floods q i.0 (outcome q.panel.now q.panel.next_stamp (Shelve i n))
effect-floods q (Unshelve i) = touch-floods q i.0 (outcome q.panel.now q.panel.next_stamp (Unshelve i))
effect-floods q (Oos i on) = touch-floods q i.0 (outcome q.panel.now q.panel.next_stamp (Oos i on))
effect-floods q (Design i on) = touch-floods q i.0 (outcome q.panel.now q.panel.next_stamp (Design i on))
effect-floods q (SetPriority i n) = refl
effect-floods q (SetSetpoint i v) = refl

pub flood-so : (q : Condensed) (action : Action) (n : ℕ) (ages : List ℕ) (before : Bool) → slice_get (step q action).kept.ages n ≡ Some ages → slice_get q.floods n ≡ Some before
    → slice_get (step q action).floods n ≡ Some (is_flooded_by (sum ages) before)
flood-so q action n ages before e f =
    let q1 : Condensed = with_effect in_brief (with_one_more q) action in
    settled-at q1.kept.ages q1.floods n ages before e (ap (λ l. slice_get l n) (effect-floods (with_one_more q) action) ∙ f) ∙ ap Some (flood-is (sum ages) before)

-- ---- slots

no-feed : (n : ℕ) → n < 16 → (n == 16) ≡ false
no-feed n h = grind (arith, nat_tests)

no-clock : (n : ℕ) → n < 16 → (n == 17) ≡ false
no-clock n h = grind (arith, nat_tests)

pub console-so : (n : ℕ) → n < 16 → role_of n ≡ role.Console
console-so n h = rw (no-feed n h, no-clock n h) refl
