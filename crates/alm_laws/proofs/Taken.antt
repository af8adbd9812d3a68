-- What an alarm takes, and which requests are accepted.
use Rattle.std.proofs.Common.{◌≡◌, ℕ, ℤ, Bool, true, false, not, ◌&&◌, ◌||◌, cond, is_some, is_none, IsTrue, Option, Some, None, Ok, refl, sym, ap, ◌∙◌, subst, arith, true≢false, eq-eqb}
use Rattle.std.specs.Prelude.{◌↔◌, slice_get, nat_lt, nat_le, ◌==◌}
use Rattle.std.specs.Ordering.{int_eq}
use Rattle.std.proofs.lemmas.Bool.{lt-ltb, ltb-true, eqb-true}
use Rattle.std.proofs.lemmas.Bool.Decides.{nat_tests}
use Rattle.std.proofs.lemmas.Option.{none-some, same_Some}
use Rattle.alm_types.specs.declared.attr.Attr.{Attr}
use Rattle.alm_types.specs.declared.action.Action.{Action}
use Rattle.alm_types.specs.declared.action.Action.TheVariants.{Clock, Value, Ack, Reset, Shelve, Unshelve, Oos, Design, SetPriority, SetSetpoint}
use Rattle.alm_types.specs.declared.refusal.Refusal.{Refusal}
use Rattle.alm_types.specs.declared.refusal.Refusal.TheVariants.{WrongRole, Exhausted, NoChange, AlreadyShelved, ShelveLength, PriorityRange, SameValue, ClockBack, AnnunciatedAgain}
use Rattle.alm_types.specs.declared.request.Request.{Request}
use Rattle.alm_types.specs.declared.want.Want.{Want}
use Rattle.alm_types.specs.declared.want.Want.TheVariants.{Do, AckSeen}
use Rattle.alm_types.specs.Wants.{wanted_action}
use Rattle.alm_types.specs.Actions.{alarm_of}
use Rattle.alm_types.specs.Slots.{role_of}
use Rattle.alm_types.specs.Sizes.{most_actions}
use Rattle.alm_state.specs.Rows.{State}
use Rattle.alm_state.specs.Suits.{suits}
use Rattle.alm_state.specs.Detection.{detection_of}
use Rattle.alm_state.specs.Outcome.{row_refusal, flag_refusal, unless, or_else}
use Rattle.alm_model.specs.Plant.{Panel, Condensed}
use Rattle.alm_model.specs.Accept.{accept, answer, may_ask, refusal, own_refusal, alarm_refusal, stamp_refusal}
use Rattle.alm_model.specs.Lists.{stamp_of}
use Rattle.alm_model.specs.Rules.{KeepsRules}
use Rattle.alm_laws.specs.Left.{is_beyond, is_back}
use Rattle.alm_laws.specs.Plant.{asker_of}
use Rattle.alm_laws.specs.Table.{agree}
use Rattle.alm_laws.specs.Taken.{is_taken, IsPossible, IsAcceptable, NamesStanding}
use Rattle.alm_laws.proofs.AlarmLaws.{acknowledge-taken, resets-taken, unless-none}
use Rattle.alm_laws.proofs.Left.{comes-is, goes-is, back-isnt}
use Rattle.alm_laws.proofs.Moving.{alarm-at}
use Rattle.alm_laws.proofs.Plants.{accepted-parts, standing-part, asked-by, both-none}

-- ---- one alarm

pub taken-by : (b : Bool) (r : Refusal) → is_none (unless b r) ≡ b
taken-by true r = refl
taken-by false r = refl

came : (b g : Bool) → (g ≡ true → b ≡ false) → is_some (cond b (Some true) None) ≡ not (agree (cond b true (cond g false false)) false)
came true g f = refl
came false true f = refl
came false false f = refl

went : (b g : Bool) → (g ≡ true → b ≡ false) → is_some (cond g (Some false) None) ≡ not (agree (cond b true (cond g false true)) true)
went true true f = absurd (true≢false (f refl))
went true false f = refl
went false true f = refl
went false false f = refl

pub value-taken : (a : Attr) (before : Bool) (v : ℤ)
    → is_some (detection_of a before v) ≡ not (agree (cond (is_beyond a.kind a.setpoint v) true (cond (is_back a.kind a.setpoint a.deadband v) false before)) before)
value-taken a false v = ap (λ b. is_some (cond b (Some true) None)) (comes-is a.kind a.setpoint v) ∙ came (is_beyond a.kind a.setpoint v) (is_back a.kind a.setpoint a.deadband v) (back-isnt a.kind a.setpoint a.deadband v)
value-taken a true v = ap (λ b. is_some (cond b (Some false) None)) (goes-is a.kind a.setpoint a.deadband v) ∙ went (is_beyond a.kind a.setpoint v) (is_back a.kind a.setpoint a.deadband v) (back-isnt a.kind a.setpoint a.deadband v)

flag-taken : (on flag : Bool) → is_none (flag_refusal on flag) ≡ not (agree on flag)
flag-taken true true = refl
flag-taken true false = refl
flag-taken false true = refl
flag-taken false false = refl

both-taken : (b c : Bool) (r s : Refusal) → is_none (or_else (unless b r) (unless c s)) ≡ (b && c)
both-taken true c r s = taken-by c s
both-taken false c r s = refl

pub length-taken : (n most : ℕ) → not (n == 0 || nat_lt most n) ≡ (nat_le 1 n && nat_le n most)
length-taken n most = grind (arith, nat_tests)

none-is : (o : Option ℕ) → is_none o ≡ not (is_some o)
none-is None = refl
none-is (Some n) = refl

three : (a b c : Bool) → (a && (b && c)) ≡ (a && b && c)
three true b c = refl
three false b c = refl

pub row-taken : (action : Action) (a : Attr) (s : State) → IsTrue (suits a.latching s.core) → is_none (row_refusal action a s) ≡ is_taken action a s
row-taken (Clock t) a s fits = refl
row-taken (Value i v) a s fits = taken-by (is_some (detection_of a s.active v)) NoChange ∙ value-taken a s.active v
row-taken (Ack i) a s fits = acknowledge-taken (Ack i) a s refl fits
row-taken (Reset i) a s fits = resets-taken (Reset i) a s refl fits
row-taken (Shelve i n) a s fits =
    both-taken (is_none s.shelved_until) (not (n == 0 || nat_lt a.max_shelve n)) AlreadyShelved ShelveLength
    ∙ ap (λ b. b && not (n == 0 || nat_lt a.max_shelve n)) (none-is s.shelved_until) ∙ ap (λ b. not (is_some s.shelved_until) && b) (length-taken n a.max_shelve)
    ∙ three (not (is_some s.shelved_until)) (nat_le 1 n) (nat_le n a.max_shelve)
row-taken (Unshelve i) a s fits = taken-by (is_some s.shelved_until) _
row-taken (Oos i on) a s fits = flag-taken on s.out_of_service
row-taken (Design i on) a s fits = flag-taken on s.by_design
row-taken (SetPriority i n) a s fits = both-taken (nat_le 1 n && nat_le n 4) (not (n == a.priority)) PriorityRange SameValue
row-taken (SetSetpoint i v) a s fits = taken-by (not (int_eq v a.setpoint)) SameValue

-- ---- a request

abbrev AlarmTakes : Panel → Action → Type 0
AlarmTakes p action = (a : Attr) × (s : State) × (slice_get p.attrs (alarm_of action) ≡ Some a) × (slice_get p.rows (alarm_of action) ≡ Some s) × (is_taken action a s ≡ true)

none-by : {A : Type 0} (o : Option A) → is_none o ≡ true → o ≡ None
none-by None e = refl
none-by (Some x) e = absurd (true≢false (sym e))

alarm-there : (action : Action) (oa : Option Attr) (os : Option State) → alarm_refusal action oa os ≡ None
    → (a : Attr) × (s : State) × (oa ≡ Some a) × (os ≡ Some s) × (row_refusal action a s ≡ None)
alarm-there action (Some a) (Some s) e = (a, s, refl, refl, e)
alarm-there action (Some a) None e = absurd (none-some _ (sym e))
alarm-there action None os e = absurd (none-some _ (sym e))

pub fits-at : (q : Condensed) (i : ℕ) (a : Attr) (s : State) → KeepsRules q → slice_get q.panel.attrs i ≡ Some a → slice_get q.panel.rows i ≡ Some s → IsTrue (suits a.latching s.core)
fits-at q i a s h has row =
    let at = alarm-at q i s h row in
    subst (λ x. IsTrue (suits x.latching s.core)) (same_Some _ _ (sym at.has ∙ has)) at.keeps.suits

pub alarm-takes : (q : Condensed) (action : Action) → KeepsRules q → alarm_refusal action (slice_get q.panel.attrs (alarm_of action)) (slice_get q.panel.rows (alarm_of action)) ≡ None → AlarmTakes q.panel action
alarm-takes q action h e =
    let t = alarm-there action (slice_get q.panel.attrs (alarm_of action)) (slice_get q.panel.rows (alarm_of action)) e in
    (t.0, t.1, t.2, t.3, sym (row-taken action t.0 t.1 (fits-at q (alarm_of action) t.0 t.1 h t.2 t.3)) ∙ ap is_none t.4)

alarm-taken : (q : Condensed) (action : Action) → KeepsRules q → AlarmTakes q.panel action → alarm_refusal action (slice_get q.panel.attrs (alarm_of action)) (slice_get q.panel.rows (alarm_of action)) ≡ None
alarm-taken q action h (a, s, has, row, is) =
    ap (λ o. alarm_refusal action o (slice_get q.panel.rows (alarm_of action))) has ∙ ap (alarm_refusal action (Some a)) row
    ∙ none-by (row_refusal action a s) (row-taken action a s (fits-at q (alarm_of action) a s h has row) ∙ is)

possible-by : (q : Condensed) (action : Action) → KeepsRules q → own_refusal q.panel action ≡ None → IsPossible q.panel action
possible-by q (Clock t) h e = ltb-true q.panel.now t (unless-none (nat_lt q.panel.now t) ClockBack e)
possible-by q (Value i v) h e = alarm-takes q (Value i v) h e
possible-by q (Ack i) h e = alarm-takes q (Ack i) h e
possible-by q (Reset i) h e = alarm-takes q (Reset i) h e
possible-by q (Shelve i n) h e = alarm-takes q (Shelve i n) h e
possible-by q (Unshelve i) h e = alarm-takes q (Unshelve i) h e
possible-by q (Oos i on) h e = alarm-takes q (Oos i on) h e
possible-by q (Design i on) h e = alarm-takes q (Design i on) h e
possible-by q (SetPriority i n) h e = alarm-takes q (SetPriority i n) h e
possible-by q (SetSetpoint i v) h e = alarm-takes q (SetSetpoint i v) h e

possible-own : (q : Condensed) (action : Action) → KeepsRules q → IsPossible q.panel action → own_refusal q.panel action ≡ None
possible-own q (Clock t) h e = ap (λ b. unless b ClockBack) (lt-ltb q.panel.now t e)
possible-own q (Value i v) h e = alarm-taken q (Value i v) h e
possible-own q (Ack i) h e = alarm-taken q (Ack i) h e
possible-own q (Reset i) h e = alarm-taken q (Reset i) h e
possible-own q (Shelve i n) h e = alarm-taken q (Shelve i n) h e
possible-own q (Unshelve i) h e = alarm-taken q (Unshelve i) h e
possible-own q (Oos i on) h e = alarm-taken q (Oos i on) h e
possible-own q (Design i on) h e = alarm-taken q (Design i on) h e
possible-own q (SetPriority i n) h e = alarm-taken q (SetPriority i n) h e
possible-own q (SetSetpoint i v) h e = alarm-taken q (SetSetpoint i v) h e

may-ask : (action : Action) → may_ask (asker_of action) action ≡ true
may-ask (Clock t) = refl
may-ask (Value i v) = refl
may-ask (Ack i) = refl
may-ask (Reset i) = refl
may-ask (Shelve i n) = refl
may-ask (Unshelve i) = refl
may-ask (Oos i on) = refl
may-ask (Design i on) = refl
may-ask (SetPriority i n) = refl
may-ask (SetSetpoint i v) = refl

stands-by : (p : Panel) (w : Want) → stamp_refusal p w ≡ None → NamesStanding p w
stands-by p (Do a) e = tt
stands-by p (AckSeen i stamp) e = eqb-true (stamp_of p i.0) stamp (unless-none (stamp_of p i.0 == stamp) AnnunciatedAgain e)

stands-so : (p : Panel) (w : Want) → NamesStanding p w → stamp_refusal p w ≡ None
stands-so p (Do a) h = refl
stands-so p (AckSeen i stamp) h = ap (λ b. unless b AnnunciatedAgain) (eq-eqb (stamp_of p i.0) stamp h)

pub acceptable-by : (q : Condensed) (r : Request) → KeepsRules q → accept q.panel r ≡ Ok (wanted_action r) → IsAcceptable q.panel r
acceptable-by q r h e =
    let free = both-none (own_refusal q.panel (wanted_action r)) (unless (nat_lt q.panel.count most_actions) Exhausted) (accepted-parts q.panel r e).1 in
    record {
      asker = asked-by q.panel r e;
      possible = possible-by q (wanted_action r) h free.0;
      number = ltb-true q.panel.count most_actions (unless-none (nat_lt q.panel.count most_actions) Exhausted free.1);
      standing = stands-by q.panel r.want (standing-part q.panel r e);
    }

pub acceptable-so : (q : Condensed) (r : Request) → KeepsRules q → IsAcceptable q.panel r → accept q.panel r ≡ Ok (wanted_action r)
acceptable-so q r h k =
    let asks : may_ask (role_of r.slot) (wanted_action r) ≡ true = ap (λ x. may_ask x (wanted_action r)) k.asker ∙ may-ask (wanted_action r) in
    let numbered : nat_lt q.panel.count most_actions ≡ true = lt-ltb q.panel.count most_actions k.number in
    ap (answer (wanted_action r))
    (ap (λ b. or_else (unless b WrongRole) (or_else (refusal q.panel (wanted_action r)) (stamp_refusal q.panel r.want))) asks
    ∙ ap (λ o. or_else (or_else o (unless (nat_lt q.panel.count most_actions) Exhausted)) (stamp_refusal q.panel r.want)) (possible-own q (wanted_action r) h k.possible)
    ∙ ap (λ b. or_else (unless b Exhausted) (stamp_refusal q.panel r.want)) numbered
    ∙ stands-so q.panel r.want k.standing)

pub accepted-so : (q : Condensed) (r : Request) → KeepsRules q → (accept q.panel r ≡ Ok (wanted_action r)) ↔ IsAcceptable q.panel r
accepted-so q r h = (acceptable-by q r h, acceptable-so q r h)
