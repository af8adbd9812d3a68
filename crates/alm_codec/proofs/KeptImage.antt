-- What was read of an image keeps the rules of a plant.
use Rattle.std.proofs.Common.{◌≡◌, ℕ, zero, suc, ◌+◌, ◌*◌, ◌^◌, ◌<◌, ◌≤◌, Bool, true, false, ◌&&◌, ◌||◌, cond, eqb, ltb, leb, List, [], ◌∷◌, length, map, sum, sum_by, All, Some, refl, sym, ap, subst, ◌∙◌, arith}
use Rattle.std.specs.Prelude.{slice_get, slice_index}
use Rattle.std.proofs.lemmas.Bool.{and_parts, leb-true, ltb-true, eqb-true, lt-leb, le-ltb}
use Rattle.std.proofs.lemmas.Option.{none-some, same_Some}
use Rattle.std.proofs.lemmas.List.Elements.{All-cons, All-nil}
use Rattle.std.proofs.lemmas.List.Sums.{sum_by-cons}
use Rattle.alm_types.specs.declared.attr.Attr.{Attr}
use Rattle.alm_state.specs.Rows.{State}
use Rattle.alm_model.specs.Lists.{key_of, stamp}
use Rattle.alm_model.specs.Plant.{Condensed}
use Rattle.alm_model.specs.Rules.{IsAges, IsAlarm, KeepsRules}
use Rattle.alm_model.specs.Step.{is_flood, settled_floods}
use Rattle.alm_codec.specs.Format.{KeepEach}
use Rattle.alm_codec.specs.Image.{IsOf}
use Rattle.alm_codec.specs.ImageFields.{Area, u64, alarm_field, area, age_field, ages, is_flooded, is_among, seen_then, all_ages, image, areas_in, alarms_in, image_in}
use Rattle.alm_codec.proofs.Alarms.{alarm_from}
use Rattle.alm_codec.proofs.ImageLaws.{each_length}
use Rattle.alm_codec.proofs.KeptAlarm.{Facts, facts, passes}
use Rattle.alm_codec.proofs.Seen.{clash, then-comes, then-before}

-- ---- areas

or_second : (a b : Bool) → (a || b) ≡ true → a ≡ false → b ≡ true
or_second true b e f = absurd (clash f)
or_second false b e f = e

young : (now j n : ℕ) (list : List ℕ) → KeepEach (age_field now) (λ j _. j + 1) j n list → (i : ℕ) → now < j + i → slice_index list i ≡ 0
young now j zero [] h i lt = refl
young now j zero (x ∷ list) h i lt = absurd h
young now j (suc n) [] h i lt = absurd h
young now j (suc n) (x ∷ list) h zero lt = eqb-true x 0 (or_second (leb j now) (eqb x 0) (passes u64 (λ n. leb j now || eqb n 0) x h.0) (lt-leb j now (omega (arith, lt))))
young now j (suc n) (x ∷ list) h (suc i) lt = young now (j + 1) n list h.1 i (omega (arith, lt))

either : (b : Bool) → cond b true true ≡ true
either true = refl
either false = refl

neither : (b : Bool) → cond b false false ≡ false
neither true = refl
neither false = refl

flood_settled : (f : Bool) (w : ℕ) → is_flooded f w ≡ true → is_flood w f ≡ f
flood_settled true w e = rw (le-ltb w 5 (leb-true 5 w e)) (either (ltb 10 w))
flood_settled false w e = rw (le-ltb 10 w (leb-true w 10 e)) (neither (ltb w 5))

pub record AreasKept (now n : ℕ) (flags : List Bool) (counts : List (List ℕ)) : Type 0 where
  pub ages : All (IsAges now) counts
  pub floods : settled_floods (map sum counts) flags ≡ flags
  pub all : all_ages (areas_in flags counts) ≡ sum_by sum counts

pub areas_kept : (now n : ℕ) (floods : List Bool) (list : List (List ℕ)) → length list ≡ length floods → KeepEach {S = ℕ} (λ _. area now) (λ s _. s) 0 n (areas_in floods list) → AreasKept now n floods list
areas_kept now n [] [] e h = record { ages = All-nil (IsAges now); floods = refl; all = refl }
areas_kept now n [] (a ∷ list) e h = absurd (omega (arith, e))
areas_kept now n (f ∷ floods) [] e h = absurd (omega (arith, e))
areas_kept now zero (f ∷ floods) (a ∷ list) e h = absurd h
areas_kept now (suc n) (f ∷ floods) (a ∷ list) e h =
    let rest = areas_kept now n floods list (omega (arith, e)) h.1 in
    let one = h.0.0 in
    record {
      ages = All-cons (IsAges now) a list (record { seconds = each_length (age_field now) (λ j _. j + 1) 0 600 a one.0.1; young = λ i lt. young now 0 600 a one.0.1 i (omega (arith, lt)) }) rest.ages;
      floods = ap (λ (b : Bool). b ∷ settled_floods (map sum list) floods) (flood_settled f (sum a) one.1) ∙ ap (λ (bs : List Bool). f ∷ bs) rest.floods;
      all = omega (arith, sum_by-cons (λ (x : Area). sum x.ages) (record { flood = f; ages = a }) (areas_in floods list), sum_by-cons sum a list, rest.all);
    }

-- ---- alarms

abbrev pub stamp_at : List State → ℕ → ℕ
stamp_at rows i = key_of stamp (slice_get rows i)

pub record AlarmsKept (now next areas : ℕ) (seen : List ℕ) (attrs : List Attr) (rows : List State) (moments : List (List ℕ)) : Type 0 where
  pub in_areas : All (λ a. a.area < areas) attrs
  pub alarms : (i : ℕ) (a : Attr) (s : State) (ms : List ℕ) → slice_get attrs i ≡ Some a → slice_get rows i ≡ Some s → slice_get moments i ≡ Some ms → IsAlarm now next a s ms
  pub fresh : (i : ℕ) → 0 < stamp_at rows i → is_among (stamp_at rows i) seen ≡ false
  pub distinct : (i j : ℕ) → 0 < stamp_at rows i → stamp_at rows i ≡ stamp_at rows j → i ≡ j

below : (n next : ℕ) → 1 ≤ next → (0 < n → n < next) → n < next
below zero next some h = omega (arith, some)
below (suc n) next some h = h (omega arith)

alarm_is : (now next areas : ℕ) (seen : List ℕ) (a : Attr) (s : State) (ms : List ℕ) → 1 ≤ next → Facts now next areas seen (alarm_from a s ms) → IsAlarm now next a s ms
alarm_is now next areas seen a s ms some f = record {
  state = f.state;
  suits = f.suits;
  deadline = f.deadline;
  stamp = below s.stamp next some f.below;
  moments = f.moments;
  few = f.few;
  annunciated = f.annunciated;
}

one_alarm : (now next areas : ℕ) (a b : Attr) (s t : State) (ms ns : List ℕ) → IsAlarm now next a s ms → Some a ≡ Some b → Some s ≡ Some t → Some ms ≡ Some ns → IsAlarm now next b t ns
one_alarm now next areas a b s t ms ns h e f g =
    subst (λ (x : Attr). IsAlarm now next x t ns) (same_Some a b e) (subst (λ (x : State). IsAlarm now next a x ns) (same_Some s t f) (subst (λ (x : List ℕ). IsAlarm now next a s x) (same_Some ms ns g) h))

alarms_cons : (now next areas : ℕ) (a : Attr) (s : State) (ms : List ℕ) (attrs : List Attr) (rows : List State) (moments : List (List ℕ)) → IsAlarm now next a s ms
    → ((i : ℕ) (b : Attr) (t : State) (ns : List ℕ) → slice_get attrs i ≡ Some b → slice_get rows i ≡ Some t → slice_get moments i ≡ Some ns → IsAlarm now next b t ns)
    → (i : ℕ) (b : Attr) (t : State) (ns : List ℕ) → slice_get (a ∷ attrs) i ≡ Some b → slice_get (s ∷ rows) i ≡ Some t → slice_get (ms ∷ moments) i ≡ Some ns → IsAlarm now next b t ns
alarms_cons now next areas a s ms attrs rows moments one rest zero b t ns p q r = one_alarm now next areas a b s t ms ns one p q r
alarms_cons now next areas a s ms attrs rows moments one rest (suc i) b t ns p q r = rest i b t ns p q r

fresh_cons : (seen : List ℕ) (s : State) (rows : List State) → (0 < s.stamp → is_among s.stamp seen ≡ false) → ((i : ℕ) → 0 < stamp_at rows i → is_among (stamp_at rows i) (seen_then seen s.stamp) ≡ false)
    → (i : ℕ) → 0 < stamp_at (s ∷ rows) i → is_among (stamp_at (s ∷ rows) i) seen ≡ false
fresh_cons seen s rows one rest zero lt = one lt
fresh_cons seen s rows one rest (suc i) lt = then-before (stamp_at rows i) s.stamp seen (rest i lt)

-- no alarm after the first has its stamp
apart : (seen : List ℕ) (n m : ℕ) → 0 < n → n ≡ m → is_among m (seen_then seen n) ≡ false → ⊥
apart seen n m lt same f = clash (sym (then-comes n seen lt) ∙ subst (λ (k : ℕ). is_among k (seen_then seen n) ≡ false) (sym same) f)

distinct_cons : (seen : List ℕ) (s : State) (rows : List State) → ((i : ℕ) → 0 < stamp_at rows i → is_among (stamp_at rows i) (seen_then seen s.stamp) ≡ false)
    → ((i j : ℕ) → 0 < stamp_at rows i → stamp_at rows i ≡ stamp_at rows j → i ≡ j)
    → (i j : ℕ) → 0 < stamp_at (s ∷ rows) i → stamp_at (s ∷ rows) i ≡ stamp_at (s ∷ rows) j → i ≡ j
distinct_cons seen s rows fresh rest zero zero lt same = refl
distinct_cons seen s rows fresh rest zero (suc j) lt same = absurd (apart seen s.stamp (stamp_at rows j) lt same (fresh j (subst (λ (n : ℕ). 0 < n) same lt)))
distinct_cons seen s rows fresh rest (suc i) zero lt same = absurd (apart seen s.stamp (stamp_at rows i) (subst (λ (n : ℕ). 0 < n) same lt) (sym same) (fresh i lt))
distinct_cons seen s rows fresh rest (suc i) (suc j) lt same = ap (λ (n : ℕ). suc n) (rest i j lt same)

pub alarms_kept : (now next areas n : ℕ) (seen : List ℕ) (attrs : List Attr) (rows : List State) (moments : List (List ℕ)) → 1 ≤ next → length attrs ≡ length rows → length moments ≡ length rows
    → KeepEach (alarm_field now next areas) (λ seen a. seen_then seen a.state.stamp) seen n (alarms_in attrs rows moments) → AlarmsKept now next areas seen attrs rows moments
alarms_kept now next areas n seen [] [] moments some e f h = record {
  in_areas = All-nil (λ a. a.area < areas);
  alarms = λ i a s ms p q r. absurd (none-some a p);
  fresh = λ i lt. absurd (omega (arith, lt));
  distinct = λ i j lt same. absurd (omega (arith, lt));
}
alarms_kept now next areas n seen [] (s ∷ rows) moments some e f h = absurd (omega (arith, e))
alarms_kept now next areas n seen (a ∷ attrs) [] moments some e f h = absurd (omega (arith, e))
alarms_kept now next areas n seen (a ∷ attrs) (s ∷ rows) [] some e f h = absurd (omega (arith, f))
alarms_kept now next areas zero seen (a ∷ attrs) (s ∷ rows) (ms ∷ moments) some e f h = absurd h
alarms_kept now next areas (suc n) seen (a ∷ attrs) (s ∷ rows) (ms ∷ moments) some e f h =
    let one = facts now next areas seen (alarm_from a s ms) h.0 in
    let rest = alarms_kept now next areas n (seen_then seen s.stamp) attrs rows moments some (omega (arith, e)) (omega (arith, f)) h.1 in
    record {
      in_areas = All-cons (λ a. a.area < areas) a attrs one.area rest.in_areas;
      alarms = alarms_cons now next areas a s ms attrs rows moments (alarm_is now next areas seen a s ms some one) rest.alarms;
      fresh = fresh_cons seen s rows one.fresh rest.fresh;
      distinct = distinct_cons seen s rows rest.fresh rest.distinct;
    }

-- ---- an image

pub rules_kept : (rows areas count : ℕ) (q : Condensed) → (1 ≤ rows) × (rows ≤ 16384) → (1 ≤ areas) × (areas ≤ 64) → IsOf rows areas count q
    → length q.panel.attrs ≡ rows → length q.kept.moments ≡ rows → length q.kept.ages ≡ areas → (image rows areas count).Keeps (image_in q) → KeepsRules q × (q.panel.next_stamp < 2 ^ 64)
rules_kept rows areas count q r a of attrs moments ages h =
    let p = q.panel in
    let keeps = h.0 in
    let next = and_parts (leb 1 p.next_stamp) (leb p.next_stamp (1 + 16384 * count)) (passes u64 (λ n. leb 1 n && leb n (1 + 16384 * count)) p.next_stamp keeps.1.0) in
    let some : 1 ≤ p.next_stamp = leb-true 1 p.next_stamp next.0 in
    let by_area = areas_kept p.now areas q.floods q.kept.ages (omega (arith, of.by_areas, ages)) keeps.1.1.0.0 in
    let by_alarm = alarms_kept p.now p.next_stamp areas rows [] p.attrs p.rows q.kept.moments some (omega (arith, of.by_rows, attrs)) (omega (arith, of.by_rows, moments)) keeps.1.1.1 in (
      record {
        some = omega (arith, r.0, of.by_rows);
        few = omega (arith, r.1, of.by_rows);
        attrs = omega (arith, of.by_rows, attrs);
        recent = omega (arith, of.by_rows, moments);
        areas = (omega (arith, a.0, of.by_areas), omega (arith, a.1, of.by_areas));
        measured = omega (arith, of.by_areas, ages);
        now = ltb-true p.now (2 ^ 40) (passes u64 (λ n. ltb n (2 ^ 40)) p.now keeps.0);
        first_stamp = some;
        stamps = subst (λ (n : ℕ). p.next_stamp ≤ 1 + 16384 * n) (sym of.by_count) (leb-true p.next_stamp (1 + 16384 * count) next.1);
        ages = by_area.ages;
        annunciations = subst (λ (n : ℕ). n < p.next_stamp) by_area.all (ltb-true (all_ages (areas_in q.floods q.kept.ages)) p.next_stamp keeps.1.1.0.1);
        floods = by_area.floods;
        in_areas = subst (λ (n : ℕ). All (λ a. a.area < n) p.attrs) (sym of.by_areas) by_alarm.in_areas;
        alarms = by_alarm.alarms;
        distinct = by_alarm.distinct;
      },
      keeps.1.0.0,
    )
