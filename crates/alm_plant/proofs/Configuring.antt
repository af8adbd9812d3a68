-- The lists of all alarms, as the attributes of one change.
use Rattle.std.proofs.Common.{◌≡◌, ℕ, ◌-◌, ◌<◌, ◌≢◌, Bool, true, false, Option, Some, None, List, [], ◌∷◌, length, map, set, get_or, suc, zero, cond, refl, sym, ◌∙◌, ap, arith, subst, inl, inr, not}
use Rattle.std.specs.Prelude.{slice_get, is_some, ◌==◌, ◌&&◌}
use Rattle.std.proofs.lemmas.Bool.{cases_eq, eq-eqb, ne_eqb}
use Rattle.std.proofs.lemmas.Option.{same_Some}
use Rattle.std.proofs.lemmas.List.{length-set, length-map, get_or-map, get_or-set_same, get_or-set_other}
use Rattle.alm_types.specs.declared.attr.Attr.{Attr}
use Rattle.alm_state.specs.Rows.{State, IsState, is_annunciated}
use Rattle.alm_lists.specs.Lists.{list_without, put_by}
use Rattle.alm_lists.specs.Orders.{IsSortedFilter}
use Rattle.alm_lists.proofs.Each.{every}
use Rattle.alm_lists.proofs.Places.{slice_get-set_same, slice_get-set_other}
use Rattle.alm_lists.proofs.Times.{times-without_same, avoids-from_times}
use Rattle.alm_lists.proofs.Sorted.{sorted_filter-kept, sorted_filter-without, sorted_filter-put_by}
use Rattle.alm_links.specs.Lists.{Families, family_at, key_at_node}
use Rattle.alm_wheel.specs.Deadlines.{Schedule}
use Rattle.alm_model.specs.Lists.{key_of, is_one, passes, stamp}
use Rattle.alm_plant.specs.Filing.{IsFiled, Label, is_filed, names_list, stamp_in, with_insertion, by_priority, by_area, by_slot, AreDistinct}
use Rattle.alm_plant.specs.Nodes.{AreChained, AreScheduled}
use Rattle.alm_plant.proofs.Places.{family-set_same, family-set_other, some_below}

-- the keys of the nodes are their stamps
key_stamp : (rows : List State) (j : ℕ) → key_at_node (map stamp rows) j ≡ stamp_in rows j
key_stamp [] j = refl
key_stamp (s ∷ rows) zero = refl
key_stamp (s ∷ rows) (suc j) = key_stamp rows j

pub keys_are : (rows : List State) (keys : List ℕ) → keys ≡ map stamp rows → key_at_node keys ≡ stamp_in rows
keys_are rows keys e = ap key_at_node e ∙ (λ j node. key_stamp rows node j)

-- what is read of the changed attributes
one-other : (test : Attr → State → Bool) (attrs : List Attr) (rows : List State) (i j : ℕ) (b : Attr) → j ≢ i → is_one test (set attrs i b) rows j ≡ is_one test attrs rows j
one-other test attrs rows i j b d = ap (λ o. passes test o (slice_get rows j)) (slice_get-set_other attrs i j b d)

one-here : (test : Attr → State → Bool) (attrs : List Attr) (rows : List State) (i : ℕ) (a : Attr) (s : State) → slice_get attrs i ≡ Some a → slice_get rows i ≡ Some s → is_one test attrs rows i ≡ test a s
one-here test attrs rows i a s e r = ap (λ o. passes test o (slice_get rows i)) e ∙ ap (passes test (Some a)) r

one-same : (test : Attr → State → Bool) (attrs : List Attr) (rows : List State) (i : ℕ) (b : Attr) (s : State) → i < length attrs → slice_get rows i ≡ Some s → is_one test (set attrs i b) rows i ≡ test b s
one-same test attrs rows i b s h r = one-here test (set attrs i b) rows i b s (slice_get-set_same attrs i b h) r

attr-same : (attrs : List Attr) (i j : ℕ) (b x : Attr) → i < length attrs → j ≡ i → slice_get (set attrs i b) j ≡ Some x → b ≡ x
attr-same attrs i j b x h q f = same_Some _ _ (sym (slice_get-set_same attrs i b h) ∙ ap (slice_get (set attrs i b)) (sym q) ∙ f)

-- attributes with the same label change no list
filed-attrs : (label : Label) (attrs : List Attr) (rows : List State) (lists : List (List ℕ)) (i : ℕ) (a b : Attr) (s : State)
    → IsFiled label attrs rows lists → i < length attrs → slice_get attrs i ≡ Some a → slice_get rows i ≡ Some s → ((t : State) → label b t ≡ label a t) → IsFiled label (set attrs i b) rows lists
filed-attrs label attrs rows lists i a b s filed h e r same = record {
  bounds = λ j x t l f g. elim (cases_eq j i) [
    | inl q ↦ filed.bounds i a t l e (sym (same t) ∙ ap (λ (y : Attr). label y t) (attr-same attrs i j b x h q f) ∙ g)
    | inr q ↦ filed.bounds j x t l (sym (slice_get-set_other attrs i j b q) ∙ f) g
  ];
  sorted = λ l k. sorted_filter-kept _ _ _ _ (length rows) (get_or lists l []) (filed.sorted l k) (λ j n. refl)
      (λ j n. elim (cases_eq j i) [
        | inl q ↦ rw q (one-same (is_filed label l) attrs rows i b s h r ∙ ap (λ o. names_list o l) (same s) ∙ sym (one-here (is_filed label l) attrs rows i a s e r))
        | inr q ↦ one-other (is_filed label l) attrs rows i j b q
      ]);
}

-- all but one
abbrev beside : ℕ → (ℕ → Bool) → ℕ → Bool
beside i test j = not (j == i) && test j

beside-other : (i j : ℕ) (test : ℕ → Bool) → j ≢ i → beside i test j ≡ test j
beside-other i j test d = ap (λ b. not b && test j) (ne_eqb j i d)

beside-same : (i : ℕ) (test : ℕ → Bool) → beside i test i ≡ false
beside-same i test = ap (λ b. not b && test i) (eq-eqb i i refl)

-- a list, as an alarm is put into it by its stamp or leaves it
list-inserted : (label : Label) (attrs : List Attr) (rows : List State) (lists : List (List ℕ)) (l i : ℕ) (b : Attr) (s : State) (o : Option ℕ)
    → IsFiled label attrs rows lists → l < length lists → i < length attrs → i < length rows → slice_get rows i ≡ Some s → label b s ≡ o
    → ((m : ℕ) → o ≡ Some m → m < length lists) → (is_some o ≡ true → (x : ℕ) → x ≢ i → stamp_in rows x ≢ stamp_in rows i)
    → IsSortedFilter (stamp_in rows) (is_one (is_filed label l) (set attrs i b) rows) (length rows) (get_or (with_insertion (stamp_in rows) lists i o) l [])
list-inserted label attrs rows lists l i b s None filed k h room r to bound fresh =
    rw (get_or-map (list_without i) lists l [] [] k)
    (sorted_filter-without _ _ _ _ (length rows) i (get_or lists l []) (filed.sorted l k) (λ j n. refl) (λ j n. one-other (is_filed label l) attrs rows i j b n)
    (one-same (is_filed label l) attrs rows i b s h r ∙ ap (λ o. names_list o l) to))
list-inserted label attrs rows lists l i b s (Some m) filed k h room r to bound fresh =
    let ls = map (list_without i) lists in
    let key = stamp_in rows in
    let w : m < length lists = bound m refl in
    let wide : m < length ls = rw (length-map) w in
    elim (cases_eq l m) [
      | inl same ↦
          let xs = get_or lists m [] in
          let test = is_one (is_filed label m) attrs rows in
          let away = avoids-from_times i (list_without i xs) (times-without_same i xs) in
          rw (same, get_or-set_same ls m (put_by key i (get_or ls m [])) [] wide, get_or-map (list_without i) lists m [] [] w)
          (sorted_filter-put_by key (beside i test) (is_one (is_filed label m) (set attrs i b) rows) (length rows) i (list_without i xs)
          (sorted_filter-without key key test (beside i test) (length rows) i xs (filed.sorted m w) (λ j n. refl) (λ j n. beside-other i j test n) (beside-same i test))
          room
          (λ j n. one-other (is_filed label m) attrs rows i j b n ∙ sym (beside-other i j test n))
          (beside-same i test)
          (one-same (is_filed label m) attrs rows i b s h r ∙ ap (λ o. names_list o m) to ∙ eq-eqb m m refl)
          (every (λ x n. fresh refl x n) (list_without i xs) away))
      | inr other ↦
          rw (get_or-set_other ls m l (put_by key i (get_or ls m [])) [] other, get_or-map (list_without i) lists l [] [] k)
          (sorted_filter-without _ _ _ _ (length rows) i (get_or lists l []) (filed.sorted l k) (λ j n. refl) (λ j n. one-other (is_filed label l) attrs rows i j b n)
          (one-same (is_filed label l) attrs rows i b s h r ∙ ap (λ o. names_list o l) to ∙ ne_eqb m l (λ q. other (sym q))))
    ]

length-inserted : (key : ℕ → ℕ) (lists : List (List ℕ)) (i : ℕ) (o : Option ℕ) → length (with_insertion key lists i o) ≡ length lists
length-inserted key lists i None = length-map lists (list_without i)
length-inserted key lists i (Some l) = length-set _ l _ ∙ length-map lists (list_without i)

filed-inserted : (label : Label) (attrs : List Attr) (rows : List State) (lists : List (List ℕ)) (i : ℕ) (b : Attr) (s : State)
    → IsFiled label attrs rows lists → i < length attrs → i < length rows → slice_get rows i ≡ Some s
    → ((t : State) (m : ℕ) → label b t ≡ Some m → m < length lists) → (is_some (label b s) ≡ true → (x : ℕ) → x ≢ i → stamp_in rows x ≢ stamp_in rows i)
    → IsFiled label (set attrs i b) rows (with_insertion (stamp_in rows) lists i (label b s))
filed-inserted label attrs rows lists i b s filed h room r bound fresh =
    let long = length-inserted (stamp_in rows) lists i (label b s) in
    record {
      bounds = λ j x t l f g. rw long (elim (cases_eq j i) [
        | inl q ↦ bound t l (ap (λ (y : Attr). label y t) (attr-same attrs i j b x h q f) ∙ g)
        | inr q ↦ filed.bounds j x t l (sym (slice_get-set_other attrs i j b q) ∙ f) g
      ]);
      sorted = λ l k. let j : l < length lists = omega (arith, long) in
          list-inserted label attrs rows lists l i b s (label b s) filed j h room r refl (bound s) fresh;
    }

some_cond : (b : Bool) (n : ℕ) → is_some (cond b (Some n) None) ≡ true → b ≡ true
some_cond true n h = refl
some_cond false n h = absurd cc

-- an annunciated alarm has a stamp of its own
pub alone : (rows : List State) (i : ℕ) (s : State) → AreDistinct rows → slice_get rows i ≡ Some s → IsState s → is_annunciated s.core ≡ true → (x : ℕ) → x ≢ i → stamp_in rows x ≢ stamp_in rows i
alone rows i s distinct r state an x other same =
    let here : stamp_in rows i ≡ s.stamp = ap (key_of stamp) r in
    let some : 0 < s.stamp = state.stamped.0 (rw an refl) in
    other (sym (distinct i x (omega arith) (sym same)))

pub chained-configured : (attrs : List Attr) (rows : List State) (chains after : Families) (i : ℕ) (a b : Attr) (s : State) (keys : List ℕ) (stays : Bool)
    → AreChained attrs rows chains → i < length attrs → i < length rows → slice_get attrs i ≡ Some a → slice_get rows i ≡ Some s → a.area ≡ b.area → (stays ≡ true → a.priority ≡ b.priority)
    → (is_annunciated s.core ≡ true → (x : ℕ) → x ≢ i → stamp_in rows x ≢ stamp_in rows i) → keys ≡ map stamp rows
    → after.nodes ≡ chains.nodes
    → after.families ≡ cond stays chains.families (set chains.families 0 (with_insertion (key_at_node keys) (family_at chains.families 0) i (by_priority b s)))
    → AreChained (set attrs i b) rows after
chained-configured attrs rows chains after i a b s keys true h l room e r area same fresh ks n f = record {
  nodes = n ∙ h.nodes;
  two = ap length f ∙ h.two;
  four = ap (λ fs. length (family_at fs 0)) f ∙ h.four;
  priorities = subst (IsFiled by_priority (set attrs i b) rows) (sym (ap (λ fs. family_at fs 0) f))
      (filed-attrs by_priority attrs rows (family_at chains.families 0) i a b s h.priorities l e r (λ t. ap (λ p. cond (is_annunciated t.core) (Some (p - 1)) None) (sym (same refl))));
  areas = subst (IsFiled by_area (set attrs i b) rows) (sym (ap (λ fs. family_at fs 1) f))
      (filed-attrs by_area attrs rows (family_at chains.families 1) i a b s h.areas l e r (λ t. ap (λ p. cond (is_annunciated t.core) (Some p) None) (sym area)));
}
chained-configured attrs rows chains after i a b s keys false h l room e r area same fresh ks n f =
    let lists = family_at chains.families 0 in
    let one = with_insertion (stamp_in rows) lists i (by_priority b s) in
    let fs : after.families ≡ set chains.families 0 one = f ∙ ap (λ key. set chains.families 0 (with_insertion key lists i (by_priority b s))) (keys_are rows keys ks) in
    let first : family_at after.families 0 ≡ one = ap (λ fs. family_at fs 0) fs ∙ family-set_same chains.families 0 one (let w = h.two in omega arith) in
    let second : family_at after.families 1 ≡ family_at chains.families 1 = ap (λ fs. family_at fs 1) fs ∙ family-set_other chains.families 0 1 one (λ q. omega arith) in
    record {
      nodes = n ∙ h.nodes;
      two = ap length fs ∙ length-set chains.families 0 one ∙ h.two;
      four = ap length first ∙ length-inserted (stamp_in rows) lists i (by_priority b s) ∙ h.four;
      priorities = subst (IsFiled by_priority (set attrs i b) rows) (sym first)
          (filed-inserted by_priority attrs rows lists i b s h.priorities l room r
          (λ t m g. some_below (is_annunciated t.core) (b.priority - 1) m (length lists) g (let p = b.priority_limits.1 in let q = b.priority_limits.0 in let w = h.four in omega arith))
          (λ is. fresh (some_cond _ _ is)));
      areas = subst (IsFiled by_area (set attrs i b) rows) (sym second)
          (filed-attrs by_area attrs rows (family_at chains.families 1) i a b s h.areas l e r (λ t. ap (λ p. cond (is_annunciated t.core) (Some p) None) (sym area)));
    }

pub scheduled-configured : (attrs : List Attr) (rows : List State) (wheel : Schedule) (i : ℕ) (a b : Attr) (s : State)
    → AreScheduled attrs rows wheel → i < length attrs → slice_get attrs i ≡ Some a → slice_get rows i ≡ Some s → AreScheduled (set attrs i b) rows wheel
scheduled-configured attrs rows wheel i a b s h l e r = record {
  deadlines = h.deadlines;
  slots = h.slots;
  filed = filed-attrs by_slot attrs rows wheel.slots i a b s h.filed l e r (λ t. refl);
}

pub areas-configured : (families after : List (List (List ℕ))) (one : List (List ℕ)) (stays : Bool) → after ≡ cond stays families (set families 0 one) → length (family_at after 1) ≡ length (family_at families 1)
areas-configured families after one true f = ap (λ fs. length (family_at fs 1)) f
areas-configured families after one false f = ap (λ fs. length (family_at fs 1)) f ∙ ap length (family-set_other families 0 1 one (λ q. omega arith))
