-- The fields of an image encode its text, which has a length.
use Rattle.std.proofs.Common.{◌≡◌, ℕ, zero, suc, ◌+◌, ◌-◌, ◌*◌, ◌<◌, ◌≤◌, Bool, ◌||◌, leb, eqb, Some, subst, List, [], ◌∷◌, ◌++◌, length, replicate, refl, ap, ◌∙◌, arith}
use Rattle.std.specs.Prelude.{slice_get}
use Rattle.std.proofs.lemmas.Option.{get_or_from_slice_get, slice_get_within}
use Rattle.std.specs.Int.{w64, to_be_bytes}
use Rattle.std.proofs.lemmas.List.{length-append, length-replicate}
use Rattle.alm_types.specs.Texts.{with_padding}
use Rattle.alm_types.proofs.Padding.{length-tag, length-text}
use Rattle.alm_types.specs.declared.attr.Attr.{Attr}
use Rattle.alm_state.specs.Rows.{State}
use Rattle.alm_model.specs.Plant.{Condensed}
use Rattle.alm_model.specs.Rules.{KeepsRules}
use Rattle.alm_state.specs.Showing.{flags_of}
use Rattle.alm_model.specs.Lists.{deadline}
use Rattle.alm_codec.specs.Actions.{switch_number}
use Rattle.alm_codec.specs.Format.{tested_field, spell_each}
use Rattle.alm_codec.specs.Image.{core_code, words, settings_text, placed_text, attr_text, row_text, area_text, area_texts, alarm_texts, image_text, image_len}
use Rattle.alm_codec.specs.ImageFields.{u64, alarm_field, area, is_moment, seen_then, image, areas_in, alarms_in, image_in}
use Rattle.alm_codec.proofs.Alarms.{alarm_from}

spell_words : {S : Type 0} (test : S → ℕ → Bool) (next : S → ℕ → S) (s : S) (list : List ℕ) → spell_each (λ s. tested_field u64 (test s)) next s list ≡ words list
spell_words test next s [] = refl
spell_words test next s (n ∷ list) = ap (λ (t : List ℕ). to_be_bytes w64 n ++ t) (spell_words test next (next s n) list)

alarm_spells : (now next areas : ℕ) (seen : List ℕ) (a : Attr) (s : State) (ms : List ℕ) → (alarm_field now next areas seen).spell (alarm_from a s ms) ≡ attr_text a ++ row_text s ms
alarm_spells now next areas seen a s ms =
    ap (λ (t : List ℕ). attr_text a ++ (switch_number s.active ∷ core_code s.core ∷ flags_of s ∷ length ms ∷ to_be_bytes w64 (deadline s) ++ to_be_bytes w64 s.stamp ++ t)) (spell_words is_moment (λ s n. (s.0 - 1, n)) (length ms, now) (with_padding 3 ms))

area_spells : (now : ℕ) (flood : Bool) (ages : List ℕ) → (area now).spell (record { flood = flood; ages = ages }) ≡ area_text flood ages
area_spells now flood ages = ap (λ (t : List ℕ). switch_number flood ∷ t) (spell_words (λ j n. leb j now || eqb n 0) (λ j _. j + 1) 0 ages)

areas_spell : (now : ℕ) (floods : List Bool) (ages : List (List ℕ)) → spell_each {S = ℕ} (λ _. area now) (λ s _. s) 0 (areas_in floods ages) ≡ area_texts floods ages
areas_spell now [] ages = refl
areas_spell now (f ∷ floods) [] = refl
areas_spell now (f ∷ floods) (a ∷ ages) =
    ap (λ (t : List ℕ). t ++ spell_each {S = ℕ} (λ _. area now) (λ s _. s) 0 (areas_in floods ages)) (area_spells now f a)
    ∙ ap (λ (t : List ℕ). area_text f a ++ t) (areas_spell now floods ages)

alarms_spell : (now next areas : ℕ) (seen : List ℕ) (attrs : List Attr) (rows : List State) (moments : List (List ℕ)) → spell_each (alarm_field now next areas) (λ seen a. seen_then seen a.state.stamp) seen (alarms_in attrs rows moments) ≡ alarm_texts attrs rows moments
alarms_spell now next areas seen [] rows moments = refl
alarms_spell now next areas seen (a ∷ attrs) [] moments = refl
alarms_spell now next areas seen (a ∷ attrs) (s ∷ rows) [] = refl
alarms_spell now next areas seen (a ∷ attrs) (s ∷ rows) (ms ∷ moments) =
    ap (λ (t : List ℕ). t ++ spell_each (alarm_field now next areas) (λ seen a. seen_then seen a.state.stamp) (seen_then seen s.stamp) (alarms_in attrs rows moments)) (alarm_spells now next areas seen a s ms)
    ∙ ap (λ (t : List ℕ). attr_text a ++ row_text s ms ++ t) (alarms_spell now next areas (seen_then seen s.stamp) attrs rows moments)

pub image_spells : (rows areas count : ℕ) (q : Condensed) → (image rows areas count).spell (image_in q) ≡ image_text q
image_spells rows areas count q =
    let p = q.panel in
    ap (λ (t : List ℕ). to_be_bytes w64 p.now ++ (to_be_bytes w64 p.next_stamp ++ (t ++ spell_each (alarm_field p.now p.next_stamp areas) (λ seen a. seen_then seen a.state.stamp) [] (alarms_in p.attrs p.rows q.kept.moments)))) (areas_spell p.now q.floods q.kept.ages)
    ∙ ap (λ (t : List ℕ). to_be_bytes w64 p.now ++ (to_be_bytes w64 p.next_stamp ++ (area_texts q.floods q.kept.ages ++ t))) (alarms_spell p.now p.next_stamp areas [] p.attrs p.rows q.kept.moments)

-- ---- lengths

words_length : (list : List ℕ) → length (words list) ≡ length list * 8
words_length [] = refl
words_length (n ∷ list) = omega (arith, length-append (to_be_bytes w64 n) (words list), words_length list)

placed_length : (size : ℕ) (text : List ℕ) → length text ≤ size → length (placed_text size text) ≡ 1 + size
placed_length size text few = omega (arith, length-append text (replicate (size - length text) 0), length-replicate {A = ℕ} (size - length text) 0)

attr_length : (a : Attr) → length (attr_text a) ≡ 138
attr_length a =
    omega (arith, length-append (settings_text a ++ placed_text 32 a.tag) (placed_text 80 a.text), length-append (settings_text a) (placed_text 32 a.tag), placed_length 32 a.tag (length-tag a.tag a.tag_limits), placed_length 80 a.text (length-text a.text a.text_limits))

row_length : (s : State) (ms : List ℕ) → length ms ≤ 3 → length (row_text s ms) ≡ 44
row_length s ms few = omega (arith, words_length (with_padding 3 ms), length-append ms (replicate (3 - length ms) 0), length-replicate {A = ℕ} (3 - length ms) 0)

areas_length : (floods : List Bool) (ages : List (List ℕ)) → length ages ≡ length floods → ((i : ℕ) (list : List ℕ) → slice_get ages i ≡ Some list → length list ≡ 600) → length (area_texts floods ages) ≡ length floods * 4801
areas_length [] ages e full = refl
areas_length (f ∷ floods) [] e full = absurd (omega (arith, e))
areas_length (f ∷ floods) (a ∷ ages) e full =
    omega (arith, length-append (area_text f a) (area_texts floods ages), words_length a, full 0 a refl, areas_length floods ages (omega (arith, e)) (λ i. full (suc i)))

alarms_length : (attrs : List Attr) (rows : List State) (moments : List (List ℕ)) → length attrs ≡ length rows → length moments ≡ length rows → ((i : ℕ) (ms : List ℕ) → slice_get moments i ≡ Some ms → length ms ≤ 3) → length (alarm_texts attrs rows moments) ≡ length rows * 182
alarms_length [] [] moments e f few = refl
alarms_length [] (s ∷ rows) moments e f few = absurd (omega (arith, e))
alarms_length (a ∷ attrs) [] moments e f few = absurd (omega (arith, e))
alarms_length (a ∷ attrs) (s ∷ rows) [] e f few = absurd (omega (arith, f))
alarms_length (a ∷ attrs) (s ∷ rows) (ms ∷ moments) e f few =
    omega (arith, length-append (attr_text a ++ row_text s ms) (alarm_texts attrs rows moments), length-append (attr_text a) (row_text s ms), attr_length a, row_length s ms (few 0 ms refl), alarms_length attrs rows moments (omega (arith, e)) (omega (arith, f)) (λ i. few (suc i)))

-- an element of a list with places
there : {A : Type 0} (xs : List A) (i : ℕ) → i < length xs → (x : A) × (slice_get xs i ≡ Some x)
there [] i lt = absurd (omega (arith, lt))
there (x ∷ xs) zero lt = (x, refl)
there (x ∷ xs) (suc i) lt = there xs i (omega (arith, lt))

few_at : (q : Condensed) (i : ℕ) (ms : List ℕ) → KeepsRules q → slice_get q.kept.moments i ≡ Some ms → length ms ≤ 3
few_at q i ms h e =
    let within = slice_get_within q.kept.moments i ms e in
    let a = there q.panel.attrs i (omega (arith, within, h.attrs, h.recent)) in
    let s = there q.panel.rows i (omega (arith, within, h.recent)) in
    (h.alarms i a.0 s.0 ms a.1 s.1 e).few

pub image_length : (q : Condensed) → KeepsRules q → length (image_text q) ≡ image_len (length q.panel.rows) (length q.floods)
image_length q h =
    let p = q.panel in
    let full : (i : ℕ) (list : List ℕ) → slice_get q.kept.ages i ≡ Some list → length list ≡ 600 =
    λ i list e. subst (λ (l : List ℕ). length l ≡ 600) (get_or_from_slice_get q.kept.ages i list [] e) ((h.ages i [] (slice_get_within q.kept.ages i list e)).seconds) in
    let few : (i : ℕ) (ms : List ℕ) → slice_get q.kept.moments i ≡ Some ms → length ms ≤ 3 =
    λ i ms e. few_at q i ms h e in
    omega (
      arith,
      length-append (to_be_bytes w64 p.now ++ to_be_bytes w64 p.next_stamp ++ area_texts q.floods q.kept.ages) (alarm_texts p.attrs p.rows q.kept.moments),
      length-append (to_be_bytes w64 p.now ++ to_be_bytes w64 p.next_stamp) (area_texts q.floods q.kept.ages),
      areas_length q.floods q.kept.ages h.measured full,
      alarms_length p.attrs p.rows q.kept.moments h.attrs h.recent few,
    )
