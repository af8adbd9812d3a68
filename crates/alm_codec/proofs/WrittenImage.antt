-- The texts of areas and alarms, written one after the other.
use Rattle.std.proofs.Common.{◌≡◌, ℕ, zero, suc, ◌+◌, ◌≤◌, ◌<◌, Bool, List, [], ◌∷◌, ◌++◌, length, take, drop, get_or, Option, Some, None, refl, sym, ap, ◌∙◌, append_assoc, arith}
use Rattle.std.specs.Prelude.{slice_get, unwrap_or}
use Rattle.std.proofs.lemmas.List.{append-nil, take_more, flat_map_more}
use Rattle.std.specs.Int.{w64, to_be_bytes}
use Rattle.alm_types.specs.declared.attr.Attr.{Attr}
use Rattle.alm_state.specs.Rows.{State}
use Rattle.alm_model.specs.Parts.{age_in}
use Rattle.std.proofs.lemmas.Option.{slice_get-get_or}
use Rattle.alm_model.specs.Plant.{Condensed}
use Rattle.alm_model.specs.Lists.{moments_in}
use Rattle.alm_model.specs.Rules.{KeepsRules}
use Rattle.alm_codec.specs.Actions.{switch_number}
use Rattle.alm_codec.specs.Writing.{Wrote}
use Rattle.alm_codec.specs.Image.{image_len, image_text, words, attr_text, row_text, area_text, area_text_of, area_texts, alarm_text_of, alarm_texts}

area_texts-suc : (floods : List Bool) (ages : List (List ℕ)) (k : ℕ) → length ages ≡ length floods → k < length floods
    → area_texts (take k floods) (take k ages) ++ area_text_of (slice_get floods k) (slice_get ages k) ≡ area_texts (take (suc k) floods) (take (suc k) ages)
area_texts-suc [] ages k e lt = absurd (omega arith)
area_texts-suc (f ∷ floods) [] k e lt = absurd (omega (arith, e))
area_texts-suc (f ∷ floods) (a ∷ ages) zero e lt = sym (append-nil (area_text f a))
area_texts-suc (f ∷ floods) (a ∷ ages) (suc k) e lt =
    append_assoc (area_text f a) (area_texts (take k floods) (take k ages)) (area_text_of (slice_get floods k) (slice_get ages k))
    ∙ ap (λ (t : List ℕ). area_text f a ++ t) (area_texts-suc floods ages k (omega (arith, e)) (omega (arith, lt)))

pub area_texts-more : (floods : List Bool) (ages : List (List ℕ)) (k : ℕ) → length ages ≡ length floods → k < length floods
    → area_texts (take k floods) (take k ages) ++ area_text_of (slice_get floods k) (slice_get ages k) ≡ area_texts (take (k + 1) floods) (take (k + 1) ages)
area_texts-more floods ages k e lt =
    let next : suc k ≡ k + 1 = omega arith in
    area_texts-suc floods ages k e lt ∙ ap (λ (n : ℕ). area_texts (take n floods) (take n ages)) next

alarm_texts-suc : (attrs : List Attr) (rows : List State) (moments : List (List ℕ)) (k : ℕ) → length attrs ≡ length rows → length moments ≡ length rows → k < length rows
    → alarm_texts (take k attrs) (take k rows) (take k moments) ++ alarm_text_of (slice_get attrs k) (slice_get rows k) (slice_get moments k) ≡ alarm_texts (take (suc k) attrs) (take (suc k) rows) (take (suc k) moments)
alarm_texts-suc attrs [] moments k e f lt = absurd (omega arith)
alarm_texts-suc [] (s ∷ rows) moments k e f lt = absurd (omega (arith, e))
alarm_texts-suc (a ∷ attrs) (s ∷ rows) [] k e f lt = absurd (omega (arith, f))
alarm_texts-suc (a ∷ attrs) (s ∷ rows) (ms ∷ moments) zero e f lt = sym (append-nil (attr_text a ++ row_text s ms))
alarm_texts-suc (a ∷ attrs) (s ∷ rows) (ms ∷ moments) (suc k) e f lt =
    append_assoc (attr_text a ++ row_text s ms) (alarm_texts (take k attrs) (take k rows) (take k moments)) (alarm_text_of (slice_get attrs k) (slice_get rows k) (slice_get moments k))
    ∙ ap (λ (t : List ℕ). attr_text a ++ row_text s ms ++ t) (alarm_texts-suc attrs rows moments k (omega (arith, e)) (omega (arith, f)) (omega (arith, lt)))

pub alarm_texts-more : (attrs : List Attr) (rows : List State) (moments : List (List ℕ)) (k : ℕ) → length attrs ≡ length rows → length moments ≡ length rows → k < length rows
    → alarm_texts (take k attrs) (take k rows) (take k moments) ++ alarm_text_of (slice_get attrs k) (slice_get rows k) (slice_get moments k) ≡ alarm_texts (take (k + 1) attrs) (take (k + 1) rows) (take (k + 1) moments)
alarm_texts-more attrs rows moments k e f lt =
    let next : suc k ≡ k + 1 = omega arith in
    alarm_texts-suc attrs rows moments k e f lt ∙ ap (λ (n : ℕ). alarm_texts (take n attrs) (take n rows) (take n moments)) next

pub age_is : (o : Option (List ℕ)) (age : ℕ) → age_in age o ≡ get_or (unwrap_or o []) age 0
age_is None age = refl
age_is (Some ages) age = refl

pub words-more : (ages : List ℕ) (k n : ℕ) → k < length ages → n ≡ get_or ages k 0 → words (take k ages) ++ to_be_bytes w64 n ≡ words (take (k + 1) ages)
words-more ages k n lt e =
    ap (λ (m : ℕ). words (take k ages) ++ to_be_bytes w64 m) e
    ∙ flat_map_more (to_be_bytes w64) [] (take k ages) (get_or ages k 0)
    ∙ ap words (sym (take_more ages k 0 lt))

-- every area has 600 ages
pub ages_full : (q : Condensed) (area : ℕ) → KeepsRules q → area < length q.floods → length (unwrap_or (slice_get q.kept.ages area) []) ≡ 600
ages_full q area h lt =
    let within : area < length q.kept.ages = omega (arith, h.measured) in
    rw (slice_get-get_or q.kept.ages area [] within) (h.ages area [] within).seconds

pub area_is : (f : Option Bool) (a : Option (List ℕ)) (flood : Bool) (ages : List ℕ) → f ≡ Some flood → a ≡ Some ages → switch_number flood ∷ words (unwrap_or a []) ≡ area_text_of f a
area_is f a flood ages e g = rw (e, g) refl

pub moments_few : (q : Condensed) (i : ℕ) (a : Attr) (s : State) → KeepsRules q → i < length q.panel.rows → length (moments_in (slice_get q.kept.moments i)) ≤ 3
moments_few q i a s h lt =
    let there = slice_get-get_or q.kept.moments i [] (omega (arith, h.recent)) in
    rw there ((h.alarms i _ _ _ (slice_get-get_or q.panel.attrs i a (omega (arith, h.attrs))) (slice_get-get_or q.panel.rows i s lt) there).few)

pub alarm_is : (oa : Option Attr) (os : Option State) (om : Option (List ℕ)) (a : Attr) (s : State) (ms ns : List ℕ) → oa ≡ Some a → os ≡ Some s → om ≡ Some ns → ms ≡ moments_in om
    → attr_text a ++ row_text s ms ≡ alarm_text_of oa os om
alarm_is oa os om a s ms ns e f g h = rw (h, e, f, g) refl

pub image_is : (q : Condensed) (old new : List ℕ) (areas now next end : ℕ) → now ≡ q.panel.now → next ≡ q.panel.next_stamp → end ≡ image_len (length q.panel.rows) areas
    → Wrote old new 0 end (((to_be_bytes w64 now ++ to_be_bytes w64 next) ++ area_texts q.floods q.kept.ages) ++ alarm_texts q.panel.attrs q.panel.rows q.kept.moments)
    → new ≡ image_text q ++ drop (image_len (length q.panel.rows) areas) old
image_is q old new areas now next end e f g w =
    let areas_part : List ℕ = area_texts q.floods q.kept.ages in
    let alarms_part : List ℕ = alarm_texts q.panel.attrs q.panel.rows q.kept.moments in
    w.is
    ∙ ap (λ (n : ℕ). (((to_be_bytes w64 n ++ to_be_bytes w64 next) ++ areas_part) ++ alarms_part) ++ drop end old) e
    ∙ ap (λ (n : ℕ). (((to_be_bytes w64 q.panel.now ++ to_be_bytes w64 n) ++ areas_part) ++ alarms_part) ++ drop end old) f
    ∙ ap (λ (k : ℕ). image_text q ++ drop k old) g
