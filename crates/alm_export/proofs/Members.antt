-- Entries of a map, and the members that they are.
use Rattle.std.proofs.Common.{◌≡◌, ◌∙◌, ℕ, zero, suc, ◌+◌, List, [], ◌∷◌, take, slice_get, Some, String, Global, Ordering, Less, Equal, Greater, string_bytes, string_cmp, refl, ap, arith}
use Rattle.std.proofs.lemmas.Option.{same_Some}
use Rattle.std.specs.Ordering.{match_ordering}
use Rattle.std.specs.BTreeMap.{insert_entry}
use Rattle.toml.specs.declared.value.Value.{Value}
use Rattle.toml.specs.View.{view, members_view}
use Rattle.toml.specs.Data.{push_item, no_items, item, table}
use Rattle.alm_types.specs.declared.attr.Attr.{Attr}
use Rattle.alm_export.specs.Tree.{with_member, alarm_members, alarm_items}

abbrev Entry : Type 0
Entry = String Global × Value

of_either : (o : Ordering) (a b c : List Entry) → members_view (match_ordering o a b c) ≡ match_ordering o (members_view a) (members_view b) (members_view c)
of_either Less a b c = refl
of_either Equal a b c = refl
of_either Greater a b c = refl

-- a value put at a key
pub view_insert : (es : List Entry) (k : String Global) (v : Value) → members_view (insert_entry string_cmp es k v) ≡ with_member (string_bytes k) (view v) (members_view es)
view_insert [] k v = refl
view_insert (e ∷ es) k v = of_either (string_cmp k e.0) _ _ _ ∙ rw (view_insert es k v)

-- one more alarm
more_of : (attrs : List Attr) (n : ℕ) (a : Attr) → slice_get attrs n ≡ Some a → alarm_items (take (suc n) attrs) ≡ push_item (alarm_items (take n attrs)) (table (alarm_members a))
more_of [] n a h = cc
more_of (x ∷ attrs) zero a h = ap (λ y. item (table (alarm_members y)) no_items) (same_Some _ _ h)
more_of (x ∷ attrs) (suc n) a h = ap (item (table (alarm_members x))) (more_of attrs n a h)

pub more : (attrs : List Attr) (n : ℕ) (a : Attr) → slice_get attrs n ≡ Some a → alarm_items (take (n + 1) attrs) ≡ push_item (alarm_items (take n attrs)) (table (alarm_members a))
more attrs n a h =
    let e : n + 1 ≡ suc n = omega arith in
    rw e (more_of attrs n a h)
