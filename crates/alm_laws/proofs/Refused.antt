-- A refusal names the first reason.
use Rattle.std.proofs.Common.{◌≡◌, ℕ, List, [], ◌∷◌, ◌++◌, Bool, true, false, not, ◌&&◌, ◌||◌, Option, Some, None, is_some, is_none, IsTrue, refl, sym, ap, ◌∙◌, arith}
use Rattle.std.specs.Prelude.{Contains, slice_get, nat_lt, nat_le, ◌==◌}
use Rattle.std.specs.Ordering.{int_eq}
use Rattle.std.proofs.lemmas.Bool.Decides.{nat_tests}
use Rattle.alm_types.specs.declared.attr.Attr.{Attr}
use Rattle.alm_types.specs.declared.action.Action.{Action}
use Rattle.alm_types.specs.declared.action.Action.TheVariants.{Clock, Value, Ack, Reset, Shelve, Unshelve, Oos, Design, SetPriority, SetSetpoint}
use Rattle.alm_types.specs.declared.refusal.Refusal.{Refusal}
use Rattle.alm_types.specs.declared.refusal.Refusal.TheVariants.{NoSuchAlarm, NotUnacknowledged, NotResettable, AlreadyShelved, NotShelved, ShelveLength, AlreadySet, NotSet, NoChange, ClockBack, WrongRole, Busy, BadLine, LineTooLong, Stopped, OutOfMemory, NoSuchList, Exhausted, PriorityRange, SameValue, Forgotten, AnnunciatedAgain}
use Rattle.alm_types.specs.declared.request.Request.{Request}
use Rattle.alm_types.specs.declared.want.Want.{Want}
use Rattle.alm_types.specs.declared.want.Want.TheVariants.{Do, AckSeen}
use Rattle.alm_types.specs.Wants.{wanted_action}
use Rattle.alm_types.specs.declared.role.Role.{Role}
use Rattle.alm_types.specs.declared.role.Role.TheVariants as role
use Rattle.alm_types.specs.Actions.{alarm_of}
use Rattle.alm_types.specs.Sizes.{most_actions}
use Rattle.alm_types.specs.Slots.{role_of}
use Rattle.alm_state.specs.Rows.{State}
use Rattle.alm_state.specs.Suits.{suits}
use Rattle.alm_state.specs.Detection.{detection_of}
use Rattle.alm_state.specs.Outcome.{row_refusal, flag_refusal, unless, or_else}
use Rattle.alm_state.specs.Table.{next_core}
use Rattle.alm_state.specs.declared.happening.Happening.TheVariants as happening
use Rattle.alm_model.specs.Plant.{Condensed, Panel}
use Rattle.alm_model.specs.Lists.{stamp_of}
use Rattle.alm_model.specs.Accept.{accept, answer, may_ask, own_refusal, alarm_refusal, refusal, stamp_refusal}
use Rattle.alm_model.specs.Rules.{KeepsRules}
use Rattle.alm_laws.specs.Alarm.{is_unacknowledged, is_latched}
use Rattle.alm_laws.specs.Left.{condition_left}
use Rattle.alm_laws.specs.Plant.{asker_of}
use Rattle.alm_laws.specs.Refused.{where_so, alarm_reasons, reasons_at, own_reasons, same_role, stamp_reasons, reasons, by_first_reason, all_refusals}
use Rattle.alm_laws.specs.Table.{agree}
use Rattle.alm_laws.proofs.AlarmLaws.{acknowledge-taken, resets-taken}
use Rattle.alm_laws.proofs.Taken.{taken-by, value-taken, length-taken, fits-at}

abbrev first_of_all : List Refusal → Option Refusal
first_of_all [] = None
first_of_all (x ∷ xs) = Some x

first-join : (xs ys : List Refusal) → first_of_all (xs ++ ys) ≡ or_else (first_of_all xs) (first_of_all ys)
first-join [] ys = refl
first-join (x ∷ xs) ys = refl

-- a reason stands where the test against it fails
first-so : (b c : Bool) (r : Refusal) → c ≡ not b → first_of_all (where_so b r) ≡ unless c r
first-so true c r e = sym (ap (λ x. unless x r) e)
first-so false c r e = sym (ap (λ x. unless x r) e)

twice : (b : Bool) → b ≡ not (not b)
twice true = refl
twice false = refl

none-not : (o : Option ℕ) → is_none o ≡ not (is_some o)
none-not None = refl
none-not (Some n) = refl

flags-so : (on flag : Bool) → first_of_all (where_so (on && flag) AlreadySet ++ where_so (not on && not flag) NotSet) ≡ flag_refusal on flag
flags-so true true = refl
flags-so true false = refl
flags-so false true = refl
flags-so false false = refl

both-so : (b c d e : Bool) (r s : Refusal) → d ≡ not b → e ≡ not c → first_of_all (where_so b r ++ where_so c s) ≡ or_else (unless d r) (unless e s)
both-so b c d e r s f g = first-join (where_so b r) (where_so c s) ∙ ap (λ o. or_else o (first_of_all (where_so c s))) (first-so b d r f) ∙ ap (or_else (unless d r)) (first-so c e s g)

alarm-so : (action : Action) (a : Attr) (s : State) → IsTrue (suits a.latching s.core) → first_of_all (alarm_reasons action a s) ≡ row_refusal action a s
alarm-so (Clock t) a s fits = refl
alarm-so (Value i v) a s fits = first-so (agree (condition_left (Value i v) a s.active) s.active) (is_some (detection_of a s.active v)) NoChange (value-taken a s.active v)
alarm-so (Ack i) a s fits =
    let is : is_some (next_core a.latching happening.Ack s.core) ≡ is_unacknowledged s.core = sym (taken-by (is_some (next_core a.latching happening.Ack s.core)) NotUnacknowledged) ∙ acknowledge-taken (Ack i) a s refl fits in
    first-so (not (is_unacknowledged s.core)) (is_some (next_core a.latching happening.Ack s.core)) NotUnacknowledged (is ∙ twice (is_unacknowledged s.core))
alarm-so (Reset i) a s fits =
    let is : is_some (next_core a.latching happening.Reset s.core) ≡ (is_latched s.core && not (is_unacknowledged s.core)) = sym (taken-by (is_some (next_core a.latching happening.Reset s.core)) NotResettable) ∙ resets-taken (Reset i) a s refl fits in
    first-so (not (is_latched s.core && not (is_unacknowledged s.core))) (is_some (next_core a.latching happening.Reset s.core)) NotResettable (is ∙ twice (is_latched s.core && not (is_unacknowledged s.core)))
alarm-so (Shelve i n) a s fits =
    both-so (is_some s.shelved_until) (not (nat_le 1 n && nat_le n a.max_shelve)) (is_none s.shelved_until) (not (n == 0 || nat_lt a.max_shelve n)) AlreadyShelved ShelveLength (none-not s.shelved_until) (length-taken n a.max_shelve ∙ twice (nat_le 1 n && nat_le n a.max_shelve))
alarm-so (Unshelve i) a s fits = first-so (not (is_some s.shelved_until)) (is_some s.shelved_until) NotShelved (twice (is_some s.shelved_until))
alarm-so (Oos i on) a s fits = flags-so on s.out_of_service
alarm-so (Design i on) a s fits = flags-so on s.by_design
alarm-so (SetPriority i n) a s fits = both-so (not (nat_le 1 n && nat_le n 4)) (n == a.priority) (nat_le 1 n && nat_le n 4) (not (n == a.priority)) PriorityRange SameValue (twice (nat_le 1 n && nat_le n 4)) refl
alarm-so (SetSetpoint i v) a s fits = first-so (int_eq v a.setpoint) (not (int_eq v a.setpoint)) SameValue refl

there-so : (action : Action) (oa : Option Attr) (os : Option State) → ((a : Attr) (s : State) → oa ≡ Some a → os ≡ Some s → IsTrue (suits a.latching s.core)) → first_of_all (reasons_at action oa os) ≡ alarm_refusal action oa os
there-so action (Some a) (Some s) fits = alarm-so action a s (fits a s refl refl)
there-so action (Some a) None fits = refl
there-so action None os fits = refl

at-so : (q : Condensed) (action : Action) → KeepsRules q
    → first_of_all (reasons_at action (slice_get q.panel.attrs (alarm_of action)) (slice_get q.panel.rows (alarm_of action))) ≡ alarm_refusal action (slice_get q.panel.attrs (alarm_of action)) (slice_get q.panel.rows (alarm_of action))
at-so q action h = there-so action (slice_get q.panel.attrs (alarm_of action)) (slice_get q.panel.rows (alarm_of action)) (λ a s has row. fits-at q (alarm_of action) a s h has row)

clock-so : (now t : ℕ) → nat_lt now t ≡ not (nat_le t now)
clock-so now t = grind (arith, nat_tests)

own-so : (q : Condensed) (action : Action) → KeepsRules q → first_of_all (own_reasons q.panel action) ≡ own_refusal q.panel action
own-so q (Clock t) h = first-so (nat_le t q.panel.now) (nat_lt q.panel.now t) ClockBack (clock-so q.panel.now t)
own-so q (Value i v) h = at-so q (Value i v) h
own-so q (Ack i) h = at-so q (Ack i) h
own-so q (Reset i) h = at-so q (Reset i) h
own-so q (Shelve i n) h = at-so q (Shelve i n) h
own-so q (Unshelve i) h = at-so q (Unshelve i) h
own-so q (Oos i on) h = at-so q (Oos i on) h
own-so q (Design i on) h = at-so q (Design i on) h
own-so q (SetPriority i n) h = at-so q (SetPriority i n) h
own-so q (SetSetpoint i v) h = at-so q (SetSetpoint i v) h

may-so : (x : Role) (action : Action) → may_ask x action ≡ same_role x (asker_of action)
may-so role.Console (Clock t) = refl
may-so role.Feed (Clock t) = refl
may-so role.Clock (Clock t) = refl
may-so role.Console (Value i v) = refl
may-so role.Feed (Value i v) = refl
may-so role.Clock (Value i v) = refl
may-so role.Console (Ack i) = refl
may-so role.Feed (Ack i) = refl
may-so role.Clock (Ack i) = refl
may-so role.Console (Reset i) = refl
may-so role.Feed (Reset i) = refl
may-so role.Clock (Reset i) = refl
may-so role.Console (Shelve i n) = refl
may-so role.Feed (Shelve i n) = refl
may-so role.Clock (Shelve i n) = refl
may-so role.Console (Unshelve i) = refl
may-so role.Feed (Unshelve i) = refl
may-so role.Clock (Unshelve i) = refl
may-so role.Console (Oos i on) = refl
may-so role.Feed (Oos i on) = refl
may-so role.Clock (Oos i on) = refl
may-so role.Console (Design i on) = refl
may-so role.Feed (Design i on) = refl
may-so role.Clock (Design i on) = refl
may-so role.Console (SetPriority i n) = refl
may-so role.Feed (SetPriority i n) = refl
may-so role.Clock (SetPriority i n) = refl
may-so role.Console (SetSetpoint i v) = refl
may-so role.Feed (SetSetpoint i v) = refl
may-so role.Clock (SetSetpoint i v) = refl

judged-so : (action : Action) (xs : List Refusal) → by_first_reason action xs ≡ answer action (first_of_all xs)
judged-so action [] = refl
judged-so action (x ∷ xs) = refl

regroup : (a b c : Option Refusal) → or_else (or_else a b) c ≡ or_else a (or_else b c)
regroup None b c = refl
regroup (Some r) b c = refl

stamp-so : (p : Panel) (w : Want) → first_of_all (stamp_reasons p w) ≡ stamp_refusal p w
stamp-so p (Do a) = refl
stamp-so p (AckSeen i stamp) = first-so (not (stamp_of p i.0 == stamp)) (stamp_of p i.0 == stamp) AnnunciatedAgain (twice (stamp_of p i.0 == stamp))

pub first-reason : (q : Condensed) (r : Request) → KeepsRules q → accept q.panel r ≡ by_first_reason (wanted_action r) (reasons q.panel r)
first-reason q r h =
    let role_so = first-so (not (same_role (role_of r.slot) (asker_of (wanted_action r)))) (may_ask (role_of r.slot) (wanted_action r)) WrongRole (may-so (role_of r.slot) (wanted_action r) ∙ twice (same_role (role_of r.slot) (asker_of (wanted_action r)))) in
    let number_so = first-so (not (nat_lt q.panel.count most_actions)) (nat_lt q.panel.count most_actions) Exhausted (twice (nat_lt q.panel.count most_actions)) in
    let a : List Refusal = where_so (not (same_role (role_of r.slot) (asker_of (wanted_action r)))) WrongRole in
    let b : List Refusal = own_reasons q.panel (wanted_action r) in
    let c : List Refusal = where_so (not (nat_lt q.panel.count most_actions)) Exhausted in
    let d : List Refusal = stamp_reasons q.panel r.want in
    let three : first_of_all (a ++ b ++ c) ≡ or_else (first_of_all a) (or_else (first_of_all b) (first_of_all c)) =
    first-join (a ++ b) c ∙ ap (λ o. or_else o (first_of_all c)) (first-join a b) ∙ regroup (first_of_all a) (first_of_all b) (first_of_all c) in
    let joined : first_of_all (a ++ b ++ c ++ d) ≡ or_else (first_of_all a) (or_else (or_else (first_of_all b) (first_of_all c)) (first_of_all d)) =
    first-join (a ++ b ++ c) d ∙ ap (λ o. or_else o (first_of_all d)) three ∙ regroup (first_of_all a) (or_else (first_of_all b) (first_of_all c)) (first_of_all d) in
    let asks = unless (may_ask (role_of r.slot) (wanted_action r)) WrongRole in
    sym (judged-so (wanted_action r) (reasons q.panel r) ∙ ap (answer (wanted_action r))
    (joined ∙ ap (λ o. or_else o (or_else (or_else (first_of_all b) (first_of_all c)) (first_of_all d))) role_so
    ∙ ap (λ o. or_else asks (or_else (or_else o (first_of_all c)) (first_of_all d))) (own-so q (wanted_action r) h)
    ∙ ap (λ o. or_else asks (or_else (or_else (own_refusal q.panel (wanted_action r)) o) (first_of_all d))) number_so
    ∙ ap (λ o. or_else asks (or_else (refusal q.panel (wanted_action r)) o)) (stamp-so q.panel r.want)))

-- ---- the numbers

pub each-numbered : (refusal : Refusal) → Contains all_refusals refusal
each-numbered NoSuchAlarm = (0, omega arith, refl)
each-numbered NotUnacknowledged = (1, omega arith, refl)
each-numbered NotResettable = (2, omega arith, refl)
each-numbered AlreadyShelved = (3, omega arith, refl)
each-numbered NotShelved = (4, omega arith, refl)
each-numbered ShelveLength = (5, omega arith, refl)
each-numbered AlreadySet = (6, omega arith, refl)
each-numbered NotSet = (7, omega arith, refl)
each-numbered NoChange = (8, omega arith, refl)
each-numbered ClockBack = (9, omega arith, refl)
each-numbered WrongRole = (10, omega arith, refl)
each-numbered Busy = (11, omega arith, refl)
each-numbered BadLine = (12, omega arith, refl)
each-numbered LineTooLong = (13, omega arith, refl)
each-numbered Stopped = (14, omega arith, refl)
each-numbered OutOfMemory = (15, omega arith, refl)
each-numbered NoSuchList = (16, omega arith, refl)
each-numbered Exhausted = (17, omega arith, refl)
each-numbered PriorityRange = (18, omega arith, refl)
each-numbered SameValue = (19, omega arith, refl)
each-numbered Forgotten = (20, omega arith, refl)
each-numbered AnnunciatedAgain = (21, omega arith, refl)
