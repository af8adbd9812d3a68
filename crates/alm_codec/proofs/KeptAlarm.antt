-- What the rules of an alarm's fields say of the alarm.
use Rattle.std.proofs.Common.{◌≡◌, ℕ, ◌+◌, ◌<◌, ◌≤◌, Bool, true, false, not, ◌&&◌, ◌||◌, cond, eqb, ltb, leb, List, [], ◌∷◌, length, Option, Some, None, refl, subst, arith}
use Rattle.std.specs.Prelude.{is_some, unwrap_or, IsTrue}
use Rattle.std.proofs.lemmas.Bool.{eqb-true, and_parts, leb-true, ltb-true}
use Rattle.std.proofs.lemmas.Option.{none-some, cond_some}
use Rattle.alm_types.specs.Attributes.{deadband_limit}
use Rattle.alm_state.specs.declared.core_state.Core.{Core}
use Rattle.alm_state.specs.declared.core_state.Core.TheVariants.{Normal, Unack, Acked, RtnUnack, LatchUnack, LatchAcked}
use Rattle.alm_state.specs.Rows.{State, IsState, is_annunciated, is_active_core, is_suppressed}
use Rattle.alm_state.specs.Suits.{suits, IsAhead}
use Rattle.alm_model.specs.Rules.{IsFalling}
use Rattle.alm_codec.specs.declared.alarm_flags.AlarmFlags.{AlarmFlags}
use Rattle.alm_codec.specs.Format.{Format, byte, coded_field, tested_field}
use Rattle.alm_codec.specs.Image.{core_code}
use Rattle.alm_codec.specs.ImageFields.{Alarm, u32, u64, is_deadband, core_at, flags_in, flags_code, same_bool, is_flagged, deadline_at, is_among, is_stamp, is_moment, moments, alarm_field}

-- what is known of an alarm after others whose stamps were seen
pub record Facts (now next areas : ℕ) (seen : List ℕ) (x : Alarm) : Type 0 where
  pub deadband : x.fixed.deadband ≤ deadband_limit x.fixed.kind
  pub priority : (1 ≤ x.fixed.priority) × (x.fixed.priority ≤ 4)
  pub area : x.fixed.area < areas
  pub max_shelve : x.fixed.max_shelve ≤ 604800
  pub state : IsState x.state
  pub suits : IsTrue (suits x.fixed.latching x.state.core)
  pub deadline : IsAhead now x.fixed.max_shelve x.state.shelved_until
  pub below : 0 < x.state.stamp → x.state.stamp < next
  pub fresh : 0 < x.state.stamp → is_among x.state.stamp seen ≡ false
  pub moments : IsFalling now x.moments
  pub few : length x.moments ≤ 3
  pub annunciated : is_annunciated x.state.core ≡ true → 0 < length x.moments

pub passes : {A : Type 0} (f : Format A) (test : A → Bool) (n : A) → (tested_field f test).Keeps n → test n ≡ true
passes f test n h = (cond_some (test n) n n h.1).0

core_suits : (latching : Bool) (c : Core) → core_at latching (core_code c) ≡ Some c → IsTrue (suits latching c)
core_suits latching Normal e = refl
core_suits latching Unack e = refl
core_suits latching Acked e = refl
core_suits true RtnUnack e = absurd (none-some RtnUnack e)
core_suits false RtnUnack e = refl
core_suits true LatchUnack e = refl
core_suits false LatchUnack e = absurd (none-some LatchUnack e)
core_suits true LatchAcked e = refl
core_suits false LatchAcked e = absurd (none-some LatchAcked e)

abbrev flag_byte : Format AlarmFlags
flag_byte = coded_field byte flags_in flags_code

-- a rule of the flags, by whether one is set
abbrev flag_rule : Bool → Bool → Core → Bool
flag_rule set active c = cond set (not (is_annunciated c)) (same_bool active (is_active_core c))

flags_suppress : (set active : Bool) (c : Core) → flag_rule set active c ≡ true → set ≡ true → c ≡ Normal
flags_suppress set active Normal e s = refl
flags_suppress true active Unack e s = absurd cc
flags_suppress true active Acked e s = absurd cc
flags_suppress true active RtnUnack e s = absurd cc
flags_suppress true active LatchUnack e s = absurd cc
flags_suppress true active LatchAcked e s = absurd cc
flags_suppress false active c e s = absurd cc

same_is : (a b : Bool) → same_bool a b ≡ true → a ≡ b
same_is true true e = refl
same_is true false e = absurd cc
same_is false true e = absurd cc
same_is false false e = refl

flags_follow : (set active : Bool) (c : Core) → flag_rule set active c ≡ true → set ≡ false → active ≡ is_active_core c
flags_follow true active c e s = absurd cc
flags_follow false active c e s = same_is active (is_active_core c) e

stamp_parts : (next : ℕ) (seen : List ℕ) (n : ℕ) → is_stamp next seen true n ≡ true → (ltb 0 n ≡ true) × ((ltb n next ≡ true) × (not (is_among n seen) ≡ true))
stamp_parts next seen n e =
    let p = and_parts (ltb 0 n && ltb n next) (not (is_among n seen)) e in
    let q = and_parts (ltb 0 n) (ltb n next) p.0 in
    (q.0, (q.1, p.1))

stamp_stands : (next : ℕ) (seen : List ℕ) (b : Bool) (n : ℕ) → is_stamp next seen b n ≡ true → b ≡ true → 0 < n
stamp_stands next seen true n e s = ltb-true 0 n (stamp_parts next seen n e).0
stamp_stands next seen false n e s = absurd cc

stamp_only : (next : ℕ) (seen : List ℕ) (b : Bool) (n : ℕ) → is_stamp next seen b n ≡ true → 0 < n → b ≡ true
stamp_only next seen true n e lt = refl
stamp_only next seen false n e lt = absurd (omega (arith, eqb-true n 0 e))

stamp_below : (next : ℕ) (seen : List ℕ) (b : Bool) (n : ℕ) → is_stamp next seen b n ≡ true → 0 < n → n < next
stamp_below next seen true n e lt = ltb-true n next (stamp_parts next seen n e).1.0
stamp_below next seen false n e lt = absurd (omega (arith, eqb-true n 0 e))

not_true : (b : Bool) → not b ≡ true → b ≡ false
not_true true e = absurd cc
not_true false e = refl

stamp_fresh : (next : ℕ) (seen : List ℕ) (b : Bool) (n : ℕ) → is_stamp next seen b n ≡ true → 0 < n → is_among n seen ≡ false
stamp_fresh next seen true n e lt = not_true (is_among n seen) (stamp_parts next seen n e).1.1
stamp_fresh next seen false n e lt = absurd (omega (arith, eqb-true n 0 e))

ahead : (now longest : ℕ) (d : Option ℕ) → deadline_at now longest (is_some d) (unwrap_or d 0) ≡ Some d → IsAhead now longest d
ahead now longest None e = tt
ahead now longest (Some k) e =
    let p = and_parts (ltb now k) (leb k (now + longest)) (cond_some (ltb now k && leb k (now + longest)) (Some k) (Some k) e).0 in
    (ltb-true now k p.0, leb-true k (now + longest) p.1)

moment_is : (left bound n : ℕ) → eqb left 0 ≡ false → (tested_field u64 (is_moment (left, bound))).Keeps n → n ≤ bound
moment_is left bound n some h = leb-true n bound (subst (λ b. cond b (eqb n 0) (leb n bound) ≡ true) some (passes u64 (is_moment (left, bound)) n h))

falling : (now : ℕ) (ms : List ℕ) → length ms ≤ 3 → (moments (length ms) now).Keeps ms → IsFalling now ms
falling now [] few h = tt
falling now (a ∷ []) few h = (moment_is 1 now a refl h.0.0, tt)
falling now (a ∷ b ∷ []) few h = (moment_is 2 now a refl h.0.0, (moment_is 1 a b refl h.0.1.0, tt))
falling now (a ∷ b ∷ c ∷ []) few h = (moment_is 3 now a refl h.0.0, (moment_is 2 a b refl h.0.1.0, (moment_is 1 b c refl h.0.1.1.0, tt)))
falling now (a ∷ b ∷ c ∷ d ∷ ms) few h = absurd (omega arith)

some_kept : (c : Core) (n : ℕ) → not (is_annunciated c) || ltb 0 n ≡ true → is_annunciated c ≡ true → 0 < n
some_kept Normal n e a = absurd cc
some_kept Unack n e a = ltb-true 0 n e
some_kept Acked n e a = ltb-true 0 n e
some_kept RtnUnack n e a = ltb-true 0 n e
some_kept LatchUnack n e a = ltb-true 0 n e
some_kept LatchAcked n e a = ltb-true 0 n e

pub facts : (now next areas : ℕ) (seen : List ℕ) (x : Alarm) → (alarm_field now next areas seen).Keeps x → Facts now next areas seen x
facts now next areas seen x h =
    let s : State = x.state in
    let stamped : Bool = is_annunciated s.core || is_some s.shelved_until in
    let fixed = h.0.0.0 in
    let rest = h.0.1.1 in
    let priority = and_parts (leb 1 x.fixed.priority) (leb x.fixed.priority 4) (passes byte (λ n. leb 1 n && leb n 4) x.fixed.priority fixed.1.0) in
    let flags : flag_rule (is_suppressed s) s.active s.core ≡ true = passes flag_byte (is_flagged s.active s.core) (record { shelved = is_some s.shelved_until; by_design = s.by_design; out_of_service = s.out_of_service }) rest.1.0 in
    let kept = and_parts (leb (length x.moments) 3) (not (is_annunciated s.core) || ltb 0 (length x.moments)) (passes byte (λ n. leb n 3 && (not (is_annunciated s.core) || ltb 0 n)) (length x.moments) rest.1.1.0) in
    let few : length x.moments ≤ 3 = leb-true (length x.moments) 3 kept.0 in
    let stamp = passes u64 (is_stamp next seen stamped) s.stamp rest.1.1.1.1.0 in
    record {
      deadband = leb-true x.fixed.deadband (deadband_limit x.fixed.kind) (passes u64 (is_deadband x.fixed.kind) x.fixed.deadband fixed.1.1.1.1.1.0);
      priority = (leb-true 1 x.fixed.priority priority.0, leb-true x.fixed.priority 4 priority.1);
      area = ltb-true x.fixed.area areas (passes byte (λ n. ltb n areas) x.fixed.area fixed.1.1.0);
      max_shelve = leb-true x.fixed.max_shelve 604800 (passes u32 (λ n. leb n 604800) x.fixed.max_shelve fixed.1.1.1.1.1.1.0);
      state = record {
        suppressed = λ set. flags_suppress (is_suppressed s) s.active s.core flags set;
        active = λ set. flags_follow (is_suppressed s) s.active s.core flags set;
        stamped = (λ b. stamp_stands next seen stamped s.stamp stamp b, λ lt. stamp_only next seen stamped s.stamp stamp lt);
      };
      suits = core_suits x.fixed.latching s.core rest.0.1;
      deadline = ahead now x.fixed.max_shelve s.shelved_until rest.1.1.1.0.1;
      below = stamp_below next seen stamped s.stamp stamp;
      fresh = stamp_fresh next seen stamped s.stamp stamp;
      moments = falling now x.moments few rest.1.1.1.1.1;
      few = few;
      annunciated = some_kept s.core (length x.moments) kept.1;
    }
