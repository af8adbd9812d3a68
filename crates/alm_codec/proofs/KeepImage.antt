-- A plant that keeps the rules keeps those of the fields of its image.
use Rattle.std.proofs.Common.{◌≡◌, ℕ, zero, suc, ◌+◌, ◌-◌, ◌*◌, ◌^◌, ◌<◌, ◌≤◌, Bool, true, false, not, ◌&&◌, ◌||◌, cond, eqb, ltb, leb, List, [], ◌∷◌, length, map, take, drop, replicate, sum, sum_by, All, Option, Some, None, inl, inr, refl, sym, ap, subst, ◌∙◌, arith}
use Rattle.std.specs.Prelude.{slice_get, slice_index, is_some, IsTrue, ◌↔◌}
use Rattle.std.proofs.lemmas.Bool.{and_parts, le-leb, lt-ltb, le-ltb, leb-true, cases_lt}
use Rattle.std.proofs.lemmas.List.{take_at, drop_at, length-append, length-replicate}
use Rattle.std.proofs.lemmas.Option.{get_or_from_slice_get, slice_get_within}
use Rattle.std.proofs.lemmas.List.Sums.{sum_by-cons}
use Rattle.alm_types.specs.Texts.{with_padding, is_tag, is_text}
use Rattle.alm_types.specs.Attributes.{deadband_limit}
use Rattle.alm_types.proofs.Padding.{length-tag, length-text}
use Rattle.alm_types.specs.declared.attr.Attr.{Attr}
use Rattle.alm_types.specs.declared.kind.Kind.{Kind}
use Rattle.alm_types.specs.declared.kind.Kind.TheVariants.{High, Low, Discrete}
use Rattle.alm_state.specs.declared.core_state.Core.{Core}
use Rattle.alm_state.specs.declared.core_state.Core.TheVariants.{Normal, Unack, Acked, RtnUnack, LatchUnack, LatchAcked}
use Rattle.alm_state.specs.Rows.{State, is_suppressed, is_annunciated, is_active_core}
use Rattle.alm_state.specs.Suits.{suits, IsAhead}
use Rattle.alm_model.specs.Plant.{Condensed}
use Rattle.alm_model.specs.Rules.{IsAges, IsAlarm, IsFalling}
use Rattle.alm_model.specs.Step.{is_flood, settled_floods}
use Rattle.alm_codec.specs.declared.alarm_flags.AlarmFlags.{AlarmFlags}
use Rattle.alm_codec.specs.Format.{Format, byte, coded_field, tested_field, KeepEach}
use Rattle.alm_codec.specs.Image.{IsImageText, IsOf}
use Rattle.alm_codec.specs.ImageFields.{Area, u32, u64, flag, kind_field, zeros, padded_at, text_in, is_deadband, fixed_fields, fixed_in, core, flags_in, flags_code, same_bool, is_flagged, deadline_field, is_among, seen_then, is_stamp, is_moment, moments, alarm_field, age_field, ages, is_flooded, area, all_ages, image, areas_in, alarms_in, image_in}
use Rattle.alm_codec.proofs.Actions.{word_fits, reading_again}
use Rattle.alm_codec.proofs.Alarms.{alarm_from}
use Rattle.alm_codec.proofs.KeptImage.{stamp_at}
use Rattle.alm_codec.proofs.Seen.{clash, then-misses}

deadband_fits : (k : Kind) (n : ℕ) → n ≤ deadband_limit k → n < 2 ^ 64
deadband_fits High n h = omega (arith, h)
deadband_fits Low n h = omega (arith, h)
deadband_fits Discrete n h = omega (arith, h)

or_true : (a b : Bool) → b ≡ true → (a || b) ≡ true
or_true true b e = refl
or_true false b e = e

age_holds : (now j x : ℕ) → (now < j → x ≡ 0) → (leb j now || eqb x 0) ≡ true
age_holds now j x h = elim (cases_lt now j) [ inl lt ↦ or_true (leb j now) (eqb x 0) (rw (h lt) refl) | inr le ↦ rw (le-leb j now le) refl ]

cons_same : (a b : Bool) (xs ys : List Bool) → a ∷ xs ≡ b ∷ ys → (a ≡ b) × (xs ≡ ys)
cons_same a b xs ys e = (cc, cc)

first_is_other : (i : ℕ) → suc i ≡ 0 → ⊥
first_is_other i e = omega (arith, e)

one_less : (i j : ℕ) → suc i ≡ suc j → i ≡ j
one_less i j e = omega (arith, e)

-- a field that passes its test
pass : {A : Type 0} (f : Format A) (test : A → Bool) (n : A) → f.Keeps n → test n ≡ true → (tested_field f test).Keeps n
pass f test n h e = (h, ap (λ (b : Bool). cond b (Some n) None) e)

both_true : (a b : Bool) → a ≡ true → b ≡ true → (a && b) ≡ true
both_true a b e f = rw (e, f) refl

flag_keeps : (b : Bool) → flag.Keeps b
flag_keeps true = (omega arith, refl)
flag_keeps false = (omega arith, refl)

kind_keeps : (k : Kind) → kind_field.Keeps k
kind_keeps High = (omega arith, refl)
kind_keeps Low = (omega arith, refl)
kind_keeps Discrete = (omega arith, refl)

core_keeps : (latching : Bool) (c : Core) → IsTrue (suits latching c) → (core latching).Keeps c
core_keeps latching Normal e = (omega arith, refl)
core_keeps latching Unack e = (omega arith, refl)
core_keeps latching Acked e = (omega arith, refl)
core_keeps true RtnUnack e = absurd cc
core_keeps false RtnUnack e = (omega arith, refl)
core_keeps true LatchUnack e = (omega arith, refl)
core_keeps false LatchUnack e = absurd cc
core_keeps true LatchAcked e = (omega arith, refl)
core_keeps false LatchAcked e = absurd cc

abbrev flags_from : Bool → Bool → Bool → AlarmFlags
flags_from a b c = record { shelved = a; by_design = b; out_of_service = c }

flags_byte : (a b c : Bool) → (coded_field byte flags_in flags_code).Keeps (flags_from a b c)
flags_byte true true true = (omega arith, refl)
flags_byte true true false = (omega arith, refl)
flags_byte true false true = (omega arith, refl)
flags_byte true false false = (omega arith, refl)
flags_byte false true true = (omega arith, refl)
flags_byte false true false = (omega arith, refl)
flags_byte false false true = (omega arith, refl)
flags_byte false false false = (omega arith, refl)

same_self : (b : Bool) → same_bool b b ≡ true
same_self true = refl
same_self false = refl

flag_rule_holds : (set active : Bool) (c : Core) → (set ≡ true → c ≡ Normal) → (set ≡ false → active ≡ is_active_core c) → cond set (not (is_annunciated c)) (same_bool active (is_active_core c)) ≡ true
flag_rule_holds true active c h g = rw (h refl) refl
flag_rule_holds false active c h g = rw (g refl) (same_self (is_active_core c))

stamp_holds : (next : ℕ) (seen : List ℕ) (b : Bool) (n : ℕ) → IsTrue b ↔ (0 < n) → n < next → (0 < n → is_among n seen ≡ false) → is_stamp next seen b n ≡ true
stamp_holds next seen true n h lt fresh = rw (lt-ltb 0 n (h.0 refl), lt-ltb n next lt, fresh (h.0 refl)) refl
stamp_holds next seen false zero h lt fresh = refl
stamp_holds next seen false (suc n) h lt fresh = absurd (clash (sym (h.1 (omega arith))))

deadline_keeps : (now longest : ℕ) (d : Option ℕ) → now < 2 ^ 40 → longest ≤ 604800 → IsAhead now longest d → (deadline_field now longest (is_some d)).Keeps d
deadline_keeps now longest None few long h = (omega arith, refl)
deadline_keeps now longest (Some k) few long h = (omega (arith, h.1, few, long), rw (lt-ltb now k h.0, le-leb k (now + longest) h.1) refl)

moment_keeps : (left bound n : ℕ) → eqb left 0 ≡ false → bound < 2 ^ 64 → n ≤ bound → (tested_field u64 (is_moment (left, bound))).Keeps n
moment_keeps left bound n some few le = pass u64 (is_moment (left, bound)) n (omega (arith, le, few)) (rw (some, le-leb n bound le) refl)

none_keeps : (bound : ℕ) → (tested_field u64 (is_moment (0, bound))).Keeps 0
none_keeps bound = pass u64 (is_moment (0, bound)) 0 (omega arith) refl

moments_keep : (now : ℕ) (ms : List ℕ) → now < 2 ^ 40 → length ms ≤ 3 → IsFalling now ms → (moments (length ms) now).Keeps ms
moments_keep now [] small few h = ((none_keeps now, (none_keeps 0, (none_keeps 0, tt))), refl)
moments_keep now (a ∷ []) small few h = ((moment_keeps 1 now a refl (omega (arith, small)) h.0, (none_keeps a, (none_keeps 0, tt))), refl)
moments_keep now (a ∷ b ∷ []) small few h = ((moment_keeps 2 now a refl (omega (arith, small)) h.0, (moment_keeps 1 a b refl (omega (arith, small, h.0)) h.1.0, (none_keeps b, tt))), refl)
moments_keep now (a ∷ b ∷ c ∷ []) small few h = ((moment_keeps 3 now a refl (omega (arith, small)) h.0, (moment_keeps 2 a b refl (omega (arith, small, h.0)) h.1.0, (moment_keeps 1 b c refl (omega (arith, small, h.0, h.1.0)) h.1.1.0, tt))), refl)
moments_keep now (a ∷ b ∷ c ∷ d ∷ ms) small few h = absurd (omega (arith, few))

kept_holds : (c : Core) (n : ℕ) → (is_annunciated c ≡ true → 0 < n) → (not (is_annunciated c) || ltb 0 n) ≡ true
kept_holds Normal n h = refl
kept_holds Unack n h = lt-ltb 0 n (h refl)
kept_holds Acked n h = lt-ltb 0 n (h refl)
kept_holds RtnUnack n h = lt-ltb 0 n (h refl)
kept_holds LatchUnack n h = lt-ltb 0 n (h refl)
kept_holds LatchAcked n h = lt-ltb 0 n (h refl)

-- ---- texts

zeros_hold : (n : ℕ) → zeros (replicate n 0) ≡ true
zeros_hold zero = refl
zeros_hold (suc n) = zeros_hold n

text_keeps : (least room : ℕ) (test : List ℕ → Bool) (text : List ℕ) → room < 256 → least ≤ length text → length text ≤ room → test text ≡ true → (text_in least room test).Keeps text
text_keeps least room test text small le few good =
    let n : ℕ = length text in
    let rest : List ℕ = replicate (room - n) 0 in
    let full : length (with_padding room text) ≡ room = omega (arith, length-append text rest, length-replicate {A = ℕ} (room - n) 0) in
    let front : take n (with_padding room text) ≡ text = take_at text rest n refl in
    let back : drop n (with_padding room text) ≡ rest = drop_at text rest n refl in
    let stands : padded_at test n (with_padding room text) ≡ Some text = rw (front, back, good, zeros_hold (room - n)) refl in
    ((pass byte (λ n. leb least n && leb n room) n (omega (arith, small, few)) (both_true (leb least n) (leb n room) (le-leb least n le) (le-leb n room few)), (full, stands)), refl)

tag_least : (tag : List ℕ) → IsTrue (is_tag tag) → 1 ≤ length tag
tag_least tag h = leb-true 1 (length tag) (and_parts (leb 1 (length tag)) (leb (length tag) 32) (and_parts (leb 1 (length tag) && leb (length tag) 32) _ h).0).0

-- ---- an alarm

fixed_keeps : (areas : ℕ) (a : Attr) → areas ≤ 64 → a.area < areas → (fixed_fields areas).Keeps (fixed_in a)
fixed_keeps areas a few there = (
  (
    kind_keeps a.kind,
    (
      pass byte (λ n. leb 1 n && leb n 4) a.priority (omega (arith, a.priority_limits.1)) (both_true (leb 1 a.priority) (leb a.priority 4) (le-leb 1 a.priority a.priority_limits.0) (le-leb a.priority 4 a.priority_limits.1)),
      (
        pass byte (λ n. ltb n areas) a.area (omega (arith, few, there)) (lt-ltb a.area areas there),
        (
          flag_keeps a.latching,
          (
            (word_fits a.setpoint a.setpoint_range, reading_again a.setpoint a.setpoint_range),
            (
              pass u64 (is_deadband a.kind) a.deadband (deadband_fits a.kind a.deadband a.deadband_limit) (le-leb a.deadband (deadband_limit a.kind) a.deadband_limit),
              (
                pass u32 (λ n. leb n 604800) a.max_shelve (omega (arith, a.max_shelve_limit)) (le-leb a.max_shelve 604800 a.max_shelve_limit),
                (
                  text_keeps 1 32 is_tag a.tag (omega arith) (tag_least a.tag a.tag_limits) (length-tag a.tag a.tag_limits) a.tag_limits,
                  text_keeps 0 80 is_text a.text (omega arith) (omega arith) (length-text a.text a.text_limits) a.text_limits,
                ),
              ),
            ),
          ),
        ),
      ),
    ),
  ),
  refl,
)

keep_one : (now next areas : ℕ) (seen : List ℕ) (a : Attr) (s : State) (ms : List ℕ) → now < 2 ^ 40 → next < 2 ^ 64 → areas ≤ 64 → a.area < areas → IsAlarm now next a s ms → (0 < s.stamp → is_among s.stamp seen ≡ false)
    → (alarm_field now next areas seen).Keeps (alarm_from a s ms)
keep_one now next areas seen a s ms small fits few there h fresh =
    let stamped : Bool = is_annunciated s.core || is_some s.shelved_until in
    let set : AlarmFlags = flags_from (is_some s.shelved_until) s.by_design s.out_of_service in
    let n : ℕ = length ms in (
      (
        fixed_keeps areas a few there,
        (
          flag_keeps s.active,
          (
            core_keeps a.latching s.core h.suits,
            (
              pass (coded_field byte flags_in flags_code) (is_flagged s.active s.core) set (flags_byte (is_some s.shelved_until) s.by_design s.out_of_service) (flag_rule_holds (is_suppressed s) s.active s.core h.state.suppressed h.state.active),
              (
                pass byte (λ n. leb n 3 && (not (is_annunciated s.core) || ltb 0 n)) n (omega (arith, h.few)) (both_true (leb n 3) (not (is_annunciated s.core) || ltb 0 n) (le-leb n 3 h.few) (kept_holds s.core n h.annunciated)),
                (
                  deadline_keeps now a.max_shelve s.shelved_until small a.max_shelve_limit h.deadline,
                  (
                    pass u64 (is_stamp next seen stamped) s.stamp (omega (arith, h.stamp, fits)) (stamp_holds next seen stamped s.stamp h.state.stamped h.stamp fresh),
                    moments_keep now ms small h.few h.moments,
                  ),
                ),
              ),
            ),
          ),
        ),
      ),
      refl,
    )

-- ---- areas

ages_keep : (now j : ℕ) (list : List ℕ) → ((i : ℕ) → now < j + i → slice_index list i ≡ 0) → sum list < 2 ^ 64 → KeepEach (age_field now) (λ j _. j + 1) j (length list) list
ages_keep now j [] old few = tt
ages_keep now j (x ∷ list) old few =
    let total : sum (x ∷ list) ≡ x + sum list = sum_by-cons (λ n. n) x list in
    (pass u64 (λ n. leb j now || eqb n 0) x (omega (arith, few, total)) (age_holds now j x (λ lt. old 0 (omega (arith, lt)))), ages_keep now (j + 1) list (λ i lt. old (suc i) (omega (arith, lt))) (omega (arith, few, total)))

flood_holds : (f : Bool) (w : ℕ) → is_flood w f ≡ f → is_flooded f w ≡ true
flood_holds true w e = elim (cases_lt w 5) [ inl lt ↦ absurd (clash (sym e ∙ rw (le-ltb 10 w (omega (arith, lt)), lt-ltb w 5 lt) refl)) | inr le ↦ le-leb 5 w le ]
flood_holds false w e = elim (cases_lt 10 w) [ inl lt ↦ absurd (clash (rw (lt-ltb 10 w lt) at e)) | inr le ↦ le-leb w 10 le ]

areas_keep : (now : ℕ) (floods : List Bool) (list : List (List ℕ)) → length list ≡ length floods → ((i : ℕ) (a : List ℕ) → slice_get list i ≡ Some a → IsAges now a) → settled_floods (map sum list) floods ≡ floods → sum_by sum list < 2 ^ 64
    → KeepEach {S = ℕ} (λ _. area now) (λ s _. s) 0 (length floods) (areas_in floods list)
areas_keep now [] [] e h settle few = tt
areas_keep now [] (a ∷ list) e h settle few = absurd (omega (arith, e))
areas_keep now (f ∷ floods) [] e h settle few = absurd (omega (arith, e))
areas_keep now (f ∷ floods) (a ∷ list) e h settle few =
    let total = sum_by-cons sum a list in
    let here = h 0 a refl in
    let kept : (ages now).Keeps a = subst (λ (n : ℕ). KeepEach (age_field now) (λ j _. j + 1) 0 n a) here.seconds (ages_keep now 0 a (λ i lt. here.young i (omega (arith, lt))) (omega (arith, total, few))) in
    let same = cons_same (is_flood (sum a) f) f (settled_floods (map sum list) floods) floods settle in
    ((((flag_keeps f, kept), flood_holds f (sum a) same.0), refl), areas_keep now floods list (omega (arith, e)) (λ i. h (suc i)) same.1 (omega (arith, total, few)))

areas_total : (floods : List Bool) (list : List (List ℕ)) → length list ≡ length floods → all_ages (areas_in floods list) ≡ sum_by sum list
areas_total [] [] e = refl
areas_total [] (a ∷ list) e = absurd (omega (arith, e))
areas_total (f ∷ floods) [] e = absurd (omega (arith, e))
areas_total (f ∷ floods) (a ∷ list) e = omega (arith, sum_by-cons (λ (x : Area). sum x.ages) (record { flood = f; ages = a }) (areas_in floods list), sum_by-cons sum a list, areas_total floods list (omega (arith, e)))

-- ---- alarms

alarms_keep : (now next areas : ℕ) (seen : List ℕ) (attrs : List Attr) (rows : List State) (moments : List (List ℕ)) → now < 2 ^ 40 → next < 2 ^ 64 → areas ≤ 64 → length attrs ≡ length rows → length moments ≡ length rows
    → ((i : ℕ) (a : Attr) → slice_get attrs i ≡ Some a → a.area < areas)
    → ((i : ℕ) (a : Attr) (s : State) (ms : List ℕ) → slice_get attrs i ≡ Some a → slice_get rows i ≡ Some s → slice_get moments i ≡ Some ms → IsAlarm now next a s ms)
    → ((i : ℕ) → 0 < stamp_at rows i → is_among (stamp_at rows i) seen ≡ false)
    → ((i j : ℕ) → 0 < stamp_at rows i → stamp_at rows i ≡ stamp_at rows j → i ≡ j)
    → KeepEach (alarm_field now next areas) (λ seen a. seen_then seen a.state.stamp) seen (length rows) (alarms_in attrs rows moments)
alarms_keep now next areas seen [] [] moments small fits few e f there one fresh distinct = tt
alarms_keep now next areas seen [] (s ∷ rows) moments small fits few e f there one fresh distinct = absurd (omega (arith, e))
alarms_keep now next areas seen (a ∷ attrs) [] moments small fits few e f there one fresh distinct = absurd (omega (arith, e))
alarms_keep now next areas seen (a ∷ attrs) (s ∷ rows) [] small fits few e f there one fresh distinct = absurd (omega (arith, f))
alarms_keep now next areas seen (a ∷ attrs) (s ∷ rows) (ms ∷ moments) small fits few e f there one fresh distinct = (
  keep_one now next areas seen a s ms small fits few (there 0 a refl) (one 0 a s ms refl refl refl) (fresh 0),
  alarms_keep now next areas (seen_then seen s.stamp) attrs rows moments small fits few (omega (arith, e)) (omega (arith, f)) (λ i. there (suc i)) (λ i. one (suc i))
      (λ i lt. then-misses (stamp_at rows i) s.stamp seen (λ some same. first_is_other i (distinct (suc i) 0 lt same)) (fresh (suc i) lt))
      (λ i j lt same. one_less i j (distinct (suc i) (suc j) lt same)),
)

-- ---- an image

all_at : {A : Type 0} (P : A → Type 0) (xs : List A) → All P xs → (i : ℕ) (x : A) → slice_get xs i ≡ Some x → P x
all_at P xs h i x e = subst P (get_or_from_slice_get xs i x x e) (h i x (slice_get_within xs i x e))

pub image_keeps : (rows areas count : ℕ) (q : Condensed) (bytes : List ℕ) → IsOf rows areas count q → IsImageText q bytes → (image rows areas count).Keeps (image_in q)
image_keeps rows areas count q bytes of h =
    let p = q.panel in
    let r = h.rules in
    let few : areas ≤ 64 = omega (arith, r.areas.1, of.by_areas) in
    let area_of : (i : ℕ) (a : Attr) → slice_get p.attrs i ≡ Some a → a.area < areas = λ i a e. subst (λ (n : ℕ). a.area < n) of.by_areas (all_at (λ a. a.area < length q.floods) p.attrs r.in_areas i a e) in
    let by_area = subst (λ (n : ℕ). KeepEach {S = ℕ} (λ _. area p.now) (λ s _. s) 0 n (areas_in q.floods q.kept.ages)) of.by_areas
    (areas_keep p.now q.floods q.kept.ages r.measured (all_at (IsAges p.now) q.kept.ages r.ages) r.floods (omega (arith, r.annunciations, h.fits))) in
    let by_alarm = subst (λ (n : ℕ). KeepEach (alarm_field p.now p.next_stamp areas) (λ seen a. seen_then seen a.state.stamp) [] n (alarms_in p.attrs p.rows q.kept.moments)) of.by_rows
    (alarms_keep p.now p.next_stamp areas [] p.attrs p.rows q.kept.moments r.now h.fits few r.attrs r.recent area_of r.alarms (λ i lt. refl) r.distinct) in
    let total : ltb (all_ages (areas_in q.floods q.kept.ages)) p.next_stamp ≡ true = lt-ltb (all_ages (areas_in q.floods q.kept.ages)) p.next_stamp (omega (arith, areas_total q.floods q.kept.ages r.measured, r.annunciations)) in
    let stamps : p.next_stamp ≤ 1 + 16384 * count = subst (λ (n : ℕ). p.next_stamp ≤ 1 + 16384 * n) of.by_count r.stamps in (
      (
        pass u64 (λ n. ltb n (2 ^ 40)) p.now (omega (arith, r.now)) (lt-ltb p.now (2 ^ 40) r.now),
        (
          pass u64 (λ n. leb 1 n && leb n (1 + 16384 * count)) p.next_stamp h.fits (both_true (leb 1 p.next_stamp) (leb p.next_stamp (1 + 16384 * count)) (le-leb 1 p.next_stamp r.first_stamp) (le-leb p.next_stamp (1 + 16384 * count) stamps)),
          ((by_area, total), by_alarm),
        ),
      ),
      refl,
    )
