-- What no action names stays.
use Rattle.std.proofs.Common.{◌≡◌, ◌≢◌, ◌≤◌, ◌<◌, ◌+◌, ℕ, false, List, [], ◌∷◌, Option, Some, None, refl, sym, ◌∙◌, ap, subst, arith, inl, inr}
use Rattle.std.specs.Prelude.{slice_get, Contains}
use Rattle.std.proofs.lemmas.Option.{slice_get_within, slice_get-get_or}
use Rattle.alm_types.specs.Actions.{alarm_of}
use Rattle.alm_types.specs.declared.alarm_id.AlarmId.{AlarmId}
use Rattle.alm_types.specs.declared.attr.Attr.{Attr}
use Rattle.alm_types.specs.declared.action.Action.{Action}
use Rattle.alm_types.specs.declared.action.Action.TheVariants.{Clock, Value, Ack, Reset, Shelve, Unshelve, Oos, Design, SetPriority, SetSetpoint}
use Rattle.alm_types.specs.declared.query.Query.TheVariants as query
use Rattle.alm_state.specs.Rows.{State}
use Rattle.alm_model.specs.Plant.{Condensed}
use Rattle.alm_model.specs.Accept.{refusal, own_refusal}
use Rattle.alm_model.specs.Lists.{key_of, stamp, stamp_of, moments_in}
use Rattle.alm_model.specs.Look.{look, row_report}
use Rattle.alm_model.specs.Rules.{KeepsRules, IsTimely, AreAdmitted}
use Rattle.alm_model.specs.Step.{step, run}
use Rattle.alm_model.proofs.Kept.{there, step-keeps}
use Rattle.alm_model.proofs.Members.{Contains-from}
use Rattle.alm_model.proofs.Runs.{run_sizes, run_attrs}
use Rattle.alm_laws.specs.Untouched.{LeavesAlone, AllLeaveAlone}
use Rattle.alm_laws.proofs.Meeting.{met, unset, attr-left}
use Rattle.alm_laws.proofs.Moving.{is_clock, Moves, alarm-at, own-first, step-moves}

not-named : (i : ℕ) (until : Option ℕ) (a : Action) → is_clock a ≡ false → alarm_of a ≡ i → LeavesAlone i until a → ⊥
not-named i until (Clock t) timeless named un = absurd (cc timeless)
not-named i until (Value j v) timeless named un = un named
not-named i until (Ack j) timeless named un = un named
not-named i until (Reset j) timeless named un = un named
not-named i until (Shelve j n) timeless named un = un named
not-named i until (Unshelve j) timeless named un = un named
not-named i until (Oos j on) timeless named un = un named
not-named i until (Design j on) timeless named un = un named
not-named i until (SetPriority j n) timeless named un = un named
not-named i until (SetSetpoint j v) timeless named un = un named

not-ended : (i : ℕ) (until : Option ℕ) (a : Action) (t d : ℕ) → a ≡ Clock t → until ≡ Some d → d ≤ t → LeavesAlone i until a → ⊥
not-ended i until a t d clock shelved reached un =
    let early : t < d = subst (λ (b : Action). LeavesAlone i until b) clock un d shelved in
    absurd (omega (arith, early, reached))

-- the state
state-stays : (q : Condensed) (a : Action) (i : ℕ) (s t : State) → Moves q a i s t → LeavesAlone i s.shelved_until a → t ≡ s
state-stays q a i s t (inl named) un = absurd (not-named i s.shelved_until a named.timeless named.named un)
state-stays q a i s t (inr (inl ended)) un = absurd (not-ended i s.shelved_until a ended.moment ended.deadline ended.clock ended.shelved ended.reached un)
state-stays q a i s t (inr (inr kept)) un = kept.same

-- the attributes
attr-stays : (q : Condensed) (a : Action) (i : ℕ) (until : Option ℕ) (x y : Attr) → own_refusal q.panel a ≡ None → LeavesAlone i until a → slice_get q.panel.attrs i ≡ Some x → slice_get (step q a).panel.attrs i ≡ Some y → y ≡ x
attr-stays q (Clock t) i until x y own un has after = unset q (Clock t) i x y refl has after
attr-stays q (Value j v) i until x y own un has after = (attr-left q (Value j v) i x y own has after).others un
attr-stays q (Ack j) i until x y own un has after = (attr-left q (Ack j) i x y own has after).others un
attr-stays q (Reset j) i until x y own un has after = (attr-left q (Reset j) i x y own has after).others un
attr-stays q (Shelve j n) i until x y own un has after = (attr-left q (Shelve j n) i x y own has after).others un
attr-stays q (Unshelve j) i until x y own un has after = (attr-left q (Unshelve j) i x y own has after).others un
attr-stays q (Oos j on) i until x y own un has after = (attr-left q (Oos j on) i x y own has after).others un
attr-stays q (Design j on) i until x y own un has after = (attr-left q (Design j on) i x y own has after).others un
attr-stays q (SetPriority j n) i until x y own un has after = (attr-left q (SetPriority j n) i x y own has after).others un
attr-stays q (SetSetpoint j v) i until x y own un has after = (attr-left q (SetSetpoint j v) i x y own has after).others un

-- the moments: an alarm that is annunciated has a new stamp
moments-stay : (q : Condensed) (a : Action) (i : ℕ) (s : State) → KeepsRules q → own_refusal q.panel a ≡ None → slice_get q.panel.rows i ≡ Some s → slice_get (step q a).panel.rows i ≡ Some s
    → slice_get (step q a).kept.moments i ≡ slice_get q.kept.moments i
moments-stay q a i s rules own before after =
    let m = met q a rules own in
    let at = alarm-at q i s rules before in
    m.silent i (λ has.
    let placed = Contains-from i m.list has in
    let new : stamp_of (step q a).panel i ≡ q.panel.next_stamp + placed.0 = m.stamps placed.0 i (slice_get-get_or m.list placed.0 i placed.1 ∙ ap Some placed.2) in
    let old : stamp_of (step q a).panel i ≡ s.stamp = ap (key_of stamp) after in
    absurd (omega (arith, new, old, at.keeps.stamp)))

-- all that ROW reports
record IsSame (q p : Condensed) (i : ℕ) (s : State) : Type 0 where
  state : slice_get p.panel.rows i ≡ Some s
  row : row_report (slice_get p.panel.rows i) (slice_get p.panel.attrs i) (moments_in (slice_get p.kept.moments i)) ≡ row_report (slice_get q.panel.rows i) (slice_get q.panel.attrs i) (moments_in (slice_get q.kept.moments i))

one-stays : (q : Condensed) (a : Action) (i : ℕ) (s : State) → KeepsRules q → IsTimely a → refusal q.panel a ≡ None → slice_get q.panel.rows i ≡ Some s → LeavesAlone i s.shelved_until a → IsSame q (step q a) i s
one-stays q a i s rules timely free before un =
    let own : own_refusal q.panel a ≡ None = own-first (own_refusal q.panel a) _ free in
    let at = alarm-at q i s rules before in
    let inside = slice_get_within q.panel.rows i s before in
    let size = (run_sizes q (a ∷ []) rules.measured).0 in
    let next = there (step q a).panel.rows i (omega (arith, inside, size)) in
    let state : slice_get (step q a).panel.rows i ≡ Some s = next.1 ∙ ap Some (state-stays q a i s next.0 (step-moves q a i s next.0 rules free before next.1) un) in
    let attrs = there (step q a).panel.attrs i (omega (arith, slice_get_within q.panel.attrs i at.attr at.has, run_attrs q (a ∷ []) rules.measured)) in
    let attr : slice_get (step q a).panel.attrs i ≡ slice_get q.panel.attrs i = attrs.1 ∙ (ap Some (attr-stays q a i s.shelved_until at.attr attrs.0 own un at.has attrs.1) ∙ sym at.has) in
    let moments = moments-stay q a i s rules own before state in
    record {
      state = state;
      row = ap (λ o. row_report o (slice_get (step q a).panel.attrs i) (moments_in (slice_get (step q a).kept.moments i))) (state ∙ sym before)
          ∙ (ap (λ o. row_report (slice_get q.panel.rows i) o (moments_in (slice_get (step q a).kept.moments i))) attr
          ∙ ap (λ o. row_report (slice_get q.panel.rows i) (slice_get q.panel.attrs i) (moments_in o)) moments);
    }

pub row-stays : (q : Condensed) (actions : List Action) (i : AlarmId) (s : State) → KeepsRules q → AreAdmitted q actions → slice_get q.panel.rows i.0 ≡ Some s → AllLeaveAlone i.0 s.shelved_until actions
    → look (run q actions) (query.Row i) ≡ look q (query.Row i)
row-stays q [] i s rules all before un = refl
row-stays q (a ∷ actions) i s rules all before un =
    let one = one-stays q a i.0 s rules all.0 all.1 before un.0 in
    row-stays (step q a) actions i s (step-keeps q a rules all.0 all.1) all.2 one.state un.1 ∙ one.row
