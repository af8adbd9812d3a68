-- Entries and keys of a log that grows.
use Rattle.std.proofs.Common.{◌≡◌, ℕ, List, [], ◌∷◌, ◌++◌, refl, ap, sym, ◌∙◌}
use Rattle.std.specs.Prelude.{Option, Some, None}
use mathlib.Core.List.{IsPrefix}
use Rattle.alm_history.specs.declared.marked.Marked.{Marked}
use Rattle.alm_history.specs.Kept.{with_added, added_in, key_after, next_key}

module _ {E : Type 0} where
  with_more : (o : Option E) (xs ys : List E) → with_added o (xs ++ ys) ≡ with_added o xs ++ ys
  with_more None xs ys = refl
  with_more (Some e) xs ys = refl

  pub entries_append : (v w : List (Marked E)) → added_in (v ++ w) ≡ added_in v ++ added_in w
  entries_append [] w = refl
  entries_append (m ∷ v) w = ap (with_added m.entry) (entries_append v w) ∙ with_more m.entry (added_in v) (added_in w)

  -- what was added in a log's prefix is a prefix of what was added in the log
  pub prefix_entries : (v w : List (Marked E)) → IsPrefix v w → IsPrefix (added_in v) (added_in w)
  prefix_entries v w p = (added_in p.0, sym (entries_append v p.0) ∙ ap added_in p.1)

  key_more : (key : ℕ) (v : List (Marked E)) (m : Marked E) → key_after key (v ++ m ∷ []) ≡ m.next
  key_more key [] m = refl
  key_more key (n ∷ v) m = key_more n.next v m

  pub next_key_is : (v : List (Marked E)) (m : Marked E) → next_key (v ++ m ∷ []) ≡ m.next
  next_key_is v m = key_more 0 v m
