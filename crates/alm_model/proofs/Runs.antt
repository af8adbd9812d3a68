-- Laws of runs: what actions count, and what they leave of a plant's sizes; lists of admitted actions.
use Rattle.std.proofs.Common.{◌≡◌, ℕ, ◌+◌, ◌-◌, ◌^◌, ◌≤◌, ◌<◌, Bool, true, false, ltb, List, [], ◌∷◌, ◌++◌, length, map, sum, Option, Some, None, refl, ◌∙◌, arith}
use Rattle.std.specs.Prelude.{fold, slice_get, ◌&&◌}
use Rattle.std.specs.Option.{is_none}
use Rattle.std.proofs.lemmas.List.{length-set, length-map}
use Rattle.std.proofs.lemmas.Bool.{ltb-true}
use Rattle.alm_types.specs.declared.attr.Attr.{Attr}
use Rattle.alm_types.specs.declared.action.Action.{Action}
use Rattle.alm_types.specs.declared.action.Action.TheVariants.{Clock, Value, Ack, Reset, Shelve, Unshelve, Oos, Design, SetPriority, SetSetpoint}
use Rattle.alm_types.specs.Changes.{with_priority, with_setpoint}
use Rattle.alm_types.specs.declared.refusal.Refusal.{Refusal}
use Rattle.alm_types.specs.declared.refusal.Refusal.TheVariants.{Exhausted}
use Rattle.alm_state.specs.Rows.{State}
use Rattle.alm_state.specs.Outcome.{outcome, without_shelving, or_else, unless}
use Rattle.alm_state.specs.declared.outcome.Outcome.{Outcome}
use Rattle.alm_state.specs.declared.outcome.Outcome.TheVariants.{Changed, Annunciated, Shelved}
use Rattle.alm_model.specs.Plant.{Condensed}
use Rattle.alm_model.specs.Accept.{own_refusal, refusal}
use Rattle.alm_model.specs.Lists.{due}
use Rattle.alm_model.specs.Keeping.{in_brief, ages_after, one_younger, area_of}
use Rattle.alm_model.specs.Step.{with_outcome, with_touched_alarm, touch, unshelve, later, with_effect, with_one_more, settled_floods, step, run}
use Rattle.alm_model.specs.Rules.{AreAdmitted, AllAdmitted, admits_all}
use Rattle.alm_model.proofs.Measured.{change-length}

-- ---- each action is counted

put_count : (q : Condensed) (i : ℕ) (o : Outcome) → (with_outcome in_brief q i o).panel.count ≡ q.panel.count
put_count q i (Changed s) = refl
put_count q i (Annunciated s) = refl
put_count q i (Shelved s) = refl

touched_count : (q : Condensed) (i : ℕ) (f : Attr → State → Outcome) (a : Option Attr) (s : Option State) → (with_touched_alarm in_brief q i f a s).panel.count ≡ q.panel.count
touched_count q i f (Some a) (Some s) = put_count q i (f a s)
touched_count q i f (Some a) None = refl
touched_count q i f None s = refl

touch_count : (q : Condensed) (i : ℕ) (f : Attr → State → Outcome) → (touch in_brief q i f).panel.count ≡ q.panel.count
touch_count q i f = touched_count q i f (slice_get q.panel.attrs i) (slice_get q.panel.rows i)

unshelves_count : (q : Condensed) (list : List ℕ) → (fold (unshelve in_brief) q list).panel.count ≡ q.panel.count
unshelves_count q [] = refl
unshelves_count q (i ∷ list) = unshelves_count (unshelve in_brief q i) list ∙ touch_count q i (λ a s. without_shelving q.panel.next_stamp s)

acted_count : (q : Condensed) (a : Action) → (with_effect in_brief q a).panel.count ≡ q.panel.count
acted_count q (Clock t) = unshelves_count (later in_brief t q) (due t q.panel)
acted_count q (Value i v) = touch_count q i.0 (outcome q.panel.now q.panel.next_stamp (Value i v))
acted_count q (Ack i) = touch_count q i.0 (outcome q.panel.now q.panel.next_stamp (Ack i))
acted_count q (Reset i) = touch_count q i.0 (outcome q.panel.now q.panel.next_stamp (Reset i))
acted_count q (Shelve i s) = touch_count q i.0 (outcome q.panel.now q.panel.next_stamp (Shelve i s))
acted_count q (Unshelve i) = touch_count q i.0 (outcome q.panel.now q.panel.next_stamp (Unshelve i))
acted_count q (Oos i on) = touch_count q i.0 (outcome q.panel.now q.panel.next_stamp (Oos i on))
acted_count q (Design i on) = touch_count q i.0 (outcome q.panel.now q.panel.next_stamp (Design i on))
acted_count q (SetPriority i priority) = refl
acted_count q (SetSetpoint i setpoint) = refl

pub step_count : (q : Condensed) (a : Action) → (step q a).panel.count ≡ q.panel.count + 1
step_count q a = acted_count (with_one_more q) a

pub run_count : (q : Condensed) (actions : List Action) → (run q actions).panel.count ≡ q.panel.count + length actions
run_count q [] = omega arith
run_count q (a ∷ actions) = omega (arith, run_count (step q a) actions, step_count q a)

-- ---- the sizes of a plant

-- as many attributes, rows, areas and lists of ages
record AsMany (p q : Condensed) : Type 0 where
  attrs : length p.panel.attrs ≡ length q.panel.attrs
  rows : length p.panel.rows ≡ length q.panel.rows
  floods : length p.floods ≡ length q.floods
  ages : length p.kept.ages ≡ length q.kept.ages

as_many : (q : Condensed) → AsMany q q
as_many q = record { attrs = refl; rows = refl; floods = refl; ages = refl }

then : (p q r : Condensed) → AsMany p q → AsMany q r → AsMany p r
then p q r a b = record { attrs = a.attrs ∙ b.attrs; rows = a.rows ∙ b.rows; floods = a.floods ∙ b.floods; ages = a.ages ∙ b.ages }

put_sizes : (q : Condensed) (i : ℕ) (o : Outcome) → AsMany (with_outcome in_brief q i o) q
put_sizes q i (Changed s) = record { attrs = refl; rows = length-set q.panel.rows i s; floods = refl; ages = refl }
put_sizes q i (Annunciated s) = record { attrs = refl; rows = length-set q.panel.rows i s; floods = refl; ages = change-length q.kept.ages (area_of q.panel i) one_younger }
put_sizes q i (Shelved s) = record { attrs = refl; rows = length-set q.panel.rows i s; floods = refl; ages = refl }

touched_sizes : (q : Condensed) (i : ℕ) (f : Attr → State → Outcome) (a : Option Attr) (s : Option State) → AsMany (with_touched_alarm in_brief q i f a s) q
touched_sizes q i f (Some a) (Some s) = put_sizes q i (f a s)
touched_sizes q i f (Some a) None = as_many q
touched_sizes q i f None s = as_many q

touch_sizes : (q : Condensed) (i : ℕ) (f : Attr → State → Outcome) → AsMany (touch in_brief q i f) q
touch_sizes q i f = touched_sizes q i f (slice_get q.panel.attrs i) (slice_get q.panel.rows i)

unshelves_sizes : (q : Condensed) (list : List ℕ) → AsMany (fold (unshelve in_brief) q list) q
unshelves_sizes q [] = as_many q
unshelves_sizes q (i ∷ list) = then _ _ _ (unshelves_sizes (unshelve in_brief q i) list) (touch_sizes q i (λ a s. without_shelving q.panel.next_stamp s))

later_sizes : (t : ℕ) (q : Condensed) → AsMany (later in_brief t q) q
later_sizes t q = record { attrs = refl; rows = refl; floods = refl; ages = length-map q.kept.ages (ages_after (t - q.panel.now)) }

acted_sizes : (q : Condensed) (a : Action) → AsMany (with_effect in_brief q a) q
acted_sizes q (Clock t) = then _ _ _ (unshelves_sizes (later in_brief t q) (due t q.panel)) (later_sizes t q)
acted_sizes q (Value i v) = touch_sizes q i.0 (outcome q.panel.now q.panel.next_stamp (Value i v))
acted_sizes q (Ack i) = touch_sizes q i.0 (outcome q.panel.now q.panel.next_stamp (Ack i))
acted_sizes q (Reset i) = touch_sizes q i.0 (outcome q.panel.now q.panel.next_stamp (Reset i))
acted_sizes q (Shelve i s) = touch_sizes q i.0 (outcome q.panel.now q.panel.next_stamp (Shelve i s))
acted_sizes q (Unshelve i) = touch_sizes q i.0 (outcome q.panel.now q.panel.next_stamp (Unshelve i))
acted_sizes q (Oos i on) = touch_sizes q i.0 (outcome q.panel.now q.panel.next_stamp (Oos i on))
acted_sizes q (Design i on) = touch_sizes q i.0 (outcome q.panel.now q.panel.next_stamp (Design i on))
acted_sizes q (SetPriority i priority) = record { attrs = change-length q.panel.attrs i.0 (with_priority priority); rows = refl; floods = refl; ages = refl }
acted_sizes q (SetSetpoint i setpoint) = record { attrs = change-length q.panel.attrs i.0 (with_setpoint setpoint); rows = refl; floods = refl; ages = refl }

settled_length : (windows : List ℕ) (floods : List Bool) → length windows ≡ length floods → length (settled_floods windows floods) ≡ length floods
settled_length [] [] e = refl
settled_length [] (f ∷ floods) e = absurd (omega (arith, e))
settled_length (w ∷ windows) [] e = absurd (omega (arith, e))
settled_length (w ∷ windows) (f ∷ floods) e = omega (arith, settled_length windows floods (omega (arith, e)))

step_sizes : (q : Condensed) (a : Action) → length q.kept.ages ≡ length q.floods → AsMany (step q a) q
step_sizes q a e =
    let m = acted_sizes (with_one_more q) a in
    let p : Condensed = with_effect in_brief (with_one_more q) a in
    record { attrs = m.attrs; rows = m.rows; floods = settled_length (map sum p.kept.ages) p.floods (omega (arith, length-map p.kept.ages sum, m.ages, m.floods, e)) ∙ m.floods; ages = m.ages }

pub run_sizes : (q : Condensed) (actions : List Action) → length q.kept.ages ≡ length q.floods → (length (run q actions).panel.rows ≡ length q.panel.rows) × (length (run q actions).floods ≡ length q.floods)
run_sizes q [] e = (refl, refl)
run_sizes q (a ∷ actions) e =
    let m = step_sizes q a e in
    let more = run_sizes (step q a) actions (omega (arith, m.ages, m.floods, e)) in
    (more.0 ∙ m.rows, more.1 ∙ m.floods)

pub run_attrs : (q : Condensed) (actions : List Action) → length q.kept.ages ≡ length q.floods → length (run q actions).panel.attrs ≡ length q.panel.attrs
run_attrs q [] e = refl
run_attrs q (a ∷ actions) e =
    let m = step_sizes q a e in
    run_attrs (step q a) actions (omega (arith, m.ages, m.floods, e)) ∙ m.attrs

none_last : (o : Option Refusal) (b : Bool) → or_else o (unless b Exhausted) ≡ None → b ≡ true
none_last None true e = refl
none_last None false e = absurd cc
none_last (Some r) b e = absurd cc

-- an admitted action is not beyond the most
pub run_within : (q : Condensed) (actions : List Action) → q.panel.count ≤ 2 ^ 48 → AreAdmitted q actions → (run q actions).panel.count ≤ 2 ^ 48
run_within q [] within h = within
run_within q (a ∷ actions) within h =
    let below : q.panel.count < 2 ^ 48 = ltb-true q.panel.count (2 ^ 48) (none_last (own_refusal q.panel a) (ltb q.panel.count (2 ^ 48)) h.1) in
    run_within (step q a) actions (omega (arith, below, step_count q a)) h.2

-- ---- one list of actions after another

pub run_append : (q : Condensed) (xs ys : List Action) → run q (xs ++ ys) ≡ run (run q xs) ys
run_append q [] ys = refl
run_append q (a ∷ xs) ys = run_append (step q a) xs ys

pub admitted_join : (q : Condensed) (xs ys : List Action) → AreAdmitted q xs → AreAdmitted (run q xs) ys → AreAdmitted q (xs ++ ys)
admitted_join q [] ys h k = k
admitted_join q (x ∷ xs) ys h k = (h.0, h.1, admitted_join (step q x) xs ys h.2 k)

pub admitted_parts : (q : Condensed) (xs ys : List Action) → AreAdmitted q (xs ++ ys) → AreAdmitted q xs × AreAdmitted (run q xs) ys
admitted_parts q [] ys h = (tt, h)
admitted_parts q (x ∷ xs) ys h = let more = admitted_parts (step q x) xs ys h.2 in ((h.0, h.1, more.0), more.1)

-- what is admitted is refused nowhere
pub all_admitted : (q : Condensed) (actions : List Action) → AreAdmitted q actions → AllAdmitted q actions
all_admitted q [] h = tt
all_admitted q (a ∷ actions) h = (h.1, all_admitted (step q a) actions h.2)

-- both ways to say that actions are admitted
admitted_by : (o : Option Refusal) (b : Bool) → (is_none o && b) ≡ true → (o ≡ None) × (b ≡ true)
admitted_by None b is = (refl, is)
admitted_by (Some r) b is = absurd cc

pub admitted_where : (q : Condensed) (actions : List Action) → admits_all q actions ≡ true → AllAdmitted q actions
admitted_where q [] is = tt
admitted_where q (a ∷ actions) is = let both = admitted_by (refusal q.panel a) (admits_all (step q a) actions) is in (both.0, admitted_where (step q a) actions both.1)

pub admits_where : (q : Condensed) (actions : List Action) → AllAdmitted q actions → admits_all q actions ≡ true
admits_where q [] all = refl
admits_where q (a ∷ actions) all = rw (all.0, admits_where (step q a) actions all.1) refl
