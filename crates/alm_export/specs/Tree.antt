-- What a table file says of a plant's table, as the tree that TOML reads in it. Keys are in the order of their bytes.
use Rattle.std.specs.Prelude.{ℕ, List, map, codes, pos, min, max}
use Rattle.std.specs.Ordering.{nat_cmp, match_ordering}
use Rattle.std.specs.Cmp.Lexicographic.{slice_cmp}
use Rattle.toml.specs.Data.{Data, string, integer, boolean, array, table, Items, Members, no_members, member}
use Rattle.toml.specs.View.{items_of}
use Rattle.alm_types.specs.declared.attr.Attr.{Attr}
use Rattle.alm_types.specs.declared.kind.Kind.{Kind}
use Rattle.alm_types.specs.declared.kind.Kind.TheVariants.{High, Low, Discrete}

-- a value put at a key
abbrev pub with_member : List ℕ → Data → Members → Members
with_member k d no_members = member k d no_members
with_member k d (member l e ms) = match_ordering (slice_cmp nat_cmp k l) (member k d (member l e ms)) (member l d ms) (member l e (with_member k d ms))

-- the name of a kind
abbrev pub kind_name : Kind → List ℕ
kind_name High = codes "high"
kind_name Low = codes "low"
kind_name Discrete = codes "discrete"

-- an alarm
abbrev pub alarm_members : Attr → Members
alarm_members a =
    member (codes "area") (integer (pos a.area)) (
    member (codes "deadband") (integer (pos a.deadband)) (
    member (codes "kind") (string (kind_name a.kind)) (
    member (codes "latching") (boolean a.latching) (
    member (codes "max_shelve") (integer (pos a.max_shelve)) (
    member (codes "priority") (integer (pos a.priority)) (
    member (codes "setpoint") (integer a.setpoint) (
    member (codes "tag") (string a.tag) (
    member (codes "text") (string a.text) no_members))))))))

-- the alarms by number
abbrev pub alarm_items : List Attr → Items
alarm_items attrs = items_of (map (λ a. table (alarm_members a)) attrs)

-- the file
abbrev pub file_members : (size areas : ℕ) → List Attr → Members
file_members size areas attrs =
    member (codes "alarm") (array (alarm_items attrs)) (
    member (codes "areas") (integer (pos areas)) (
    member (codes "size") (integer (pos size)) no_members))

-- the size that a file may name, nearest to a device's: 1 to 2^40
abbrev pub named_size : ℕ → ℕ
named_size size = max 1 (min size 1099511627776)
