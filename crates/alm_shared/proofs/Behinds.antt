-- What was handed over of a list.
use Rattle.std.proofs.Common.{◌≡◌, ℕ, ◌+◌, ◌-◌, ◌≤◌, ◌<◌, ◌≢◌, List, [], ◌∷◌, ◌++◌, length, take, drop, sym, ◌∙◌, ap, subst, arith, length-append, length-drop, append_assoc}
use Rattle.std.proofs.lemmas.List.{take-append-drop, drop-append-le, drop_all}
use Rattle.std.proofs.Math.Seq.{drop-append-add}
use Rattle.alm_types.specs.declared.logged_action.LoggedAction.{LoggedAction}
use Rattle.alm_types.specs.declared.entry.Entry.{Entry}
use Rattle.alm_model.specs.Judging.{logged_actions, logged_of}
use Rattle.alm_model.specs.Plant.{Condensed}
use Rattle.alm_model.specs.Rules.{AllAdmitted}
use Rattle.alm_model.specs.Step.{run}
use Rattle.alm_model.proofs.Runs.{run_append}
use Rattle.alm_model.proofs.Legal.{actions_append, logged_append, admitted_append}
use Rattle.alm_board.specs.PrefixesOf.{IsPrefixOf}
use Rattle.alm_board.proofs.PrefixOfLaws.{prefix_of_joined, prefix_of_trans, prefix_of_length, rest_of}

pub prefix_behind : {A : Type 0} (s xs ys : List A) → IsPrefixOf xs ys → IsPrefixOf (s ++ xs) (s ++ ys)
prefix_behind s xs ys p = prefix_of_joined (s ++ xs) (drop (length xs) ys) (s ++ ys) (append_assoc s xs (drop (length xs) ys) ∙ ap (λ l. s ++ l) (rest_of xs ys p))

pub logged_prefix : (xs : List Entry) (k : ℕ) → IsPrefixOf (logged_of (take k xs)) (logged_of xs)
logged_prefix xs k = prefix_of_joined (logged_of (take k xs)) (logged_of (drop k xs)) (logged_of xs) (sym (logged_append (take k xs) (drop k xs)) ∙ ap logged_of (take-append-drop k xs))

-- what begins a history, which continues after what is shown by the first of these actions, begins it also with all of them
pub handed_prefix : {A : Type 0} (s h t acc : List A) → IsPrefixOf s h → IsPrefixOf h t → IsPrefixOf (drop (length s) t) acc → IsPrefixOf h (s ++ acc)
handed_prefix s h t acc shown handed same =
    let all : IsPrefixOf t (s ++ acc) = subst (λ (l : List _). IsPrefixOf l (s ++ acc)) (rest_of s t (prefix_of_trans s h t shown handed)) (prefix_behind s (drop (length s) t) acc same) in
    prefix_of_trans h t (s ++ acc) handed all

-- what was handed over of these actions after those that are shown, and the rest of them, are all
pub handed_rest : {A : Type 0} (s h acc : List A) → IsPrefixOf s h → IsPrefixOf h (s ++ acc) → h ++ drop (length h - length s) acc ≡ s ++ acc
handed_rest s h acc shown handed =
    let long : length h ≡ length s + (length h - length s) = omega (arith, prefix_of_length s h shown) in
    let behind : drop (length h) (s ++ acc) ≡ drop (length h - length s) acc = ap (λ n. drop n (s ++ acc)) long ∙ drop-append-add s acc (length h - length s) in
    ap (λ l. h ++ l) (sym behind) ∙ rest_of h (s ++ acc) handed

-- a number of the first are passed over, and then an action more is taken; or it is one of those
pub one_taken : {A : Type 0} (before : List A) (a : A) (n : ℕ) → n - length before ≡ 0 → drop n (before ++ a ∷ []) ≡ drop n before ++ a ∷ []
one_taken before a n none = drop-append-le n before (a ∷ []) (omega (arith, none))

pub one_passed : {A : Type 0} (before : List A) (a : A) (n : ℕ) → n - length before ≢ 0 → drop n (before ++ a ∷ []) ≡ drop n before
one_passed before a n some =
    let less : length before < n = omega (arith, some) in
    drop_all n (before ++ a ∷ []) (omega (arith, less, length-append before (a ∷ []))) ∙ sym (drop_all n before (omega (arith, less)))

-- what a history, which continues after what is shown by the first of these actions, has to grow by
module _ (s t acc : List LoggedAction) (shown : IsPrefixOf s t) (same : IsPrefixOf (drop (length s) t) acc) where
  long : length t - length s ≡ length (drop (length s) t)
  long = sym (length-drop (length s) t)

  pub rest_within : length t - length s ≤ length acc
  rest_within = omega (arith, long, prefix_of_length (drop (length s) t) acc same)

  pub rest_admitted : (q : Condensed) → AllAdmitted (run q (logged_actions s)) (logged_actions acc) → AllAdmitted (run q (logged_actions t)) (logged_actions (drop (length t - length s) acc))
  rest_admitted q all =
      let pending = drop (length s) t in
      let left = drop (length t - length s) acc in
      let split : logged_actions acc ≡ logged_actions pending ++ logged_actions left =
      ap logged_actions (sym (rest_of pending acc same) ∙ ap (λ n. pending ++ drop n acc) (sym long)) ∙ actions_append pending left in
      let at : run (run q (logged_actions s)) (logged_actions pending) ≡ run q (logged_actions t) =
      sym (run_append q (logged_actions s) (logged_actions pending)) ∙ ap (run q) (sym (actions_append s pending) ∙ ap logged_actions (rest_of s t shown)) in
      subst (λ p. AllAdmitted p (logged_actions left)) at (admitted_append (run q (logged_actions s)) (logged_actions pending) (logged_actions left) (subst (AllAdmitted (run q (logged_actions s))) split all))

  pub rest_whole : t ++ drop (length t - length s) acc ≡ s ++ acc
  rest_whole =
      let pending = drop (length s) t in
      ap (λ l. l ++ drop (length t - length s) acc) (sym (rest_of s t shown))
      ∙ (append_assoc s pending (drop (length t - length s) acc)
      ∙ ap (λ l. s ++ l) (ap (λ n. pending ++ drop n acc) long ∙ rest_of pending acc same))
