-- The tree of a plant's table reads as that table.
use Rattle.std.proofs.Common.{◌≡◌, ℕ, ◌+◌, ◌≤◌, ◌<◌, ◌-◌, suc, List, [], ◌∷◌, map, length, All, Some, Ok, true, ◌&&◌, nat_le, le-leb, refl, ap, rules, arith}
use Rattle.std.proofs.lemmas.List.Elements.{All-head, All-tail}
use Rattle.toml.specs.Data.{items_depth, members_depth}
use Rattle.alm_types.specs.declared.attr.Attr.{Attr}
use Rattle.alm_types.specs.declared.kind.Kind.{Kind}
use Rattle.alm_types.specs.declared.kind.Kind.TheVariants.{High, Low, Discrete}
use Rattle.alm_types.specs.Attributes.{deadband_limit}
use Rattle.alm_types.specs.Readings.{is_reading}
use Rattle.alm_types.specs.Texts.{is_tag, is_text}
use Rattle.alm_table.specs.TableFile.{read_alarm, read_alarms, read_file, kind_named, are_tables, count}
use Rattle.alm_table.specs.Faults.{element_of, device_table}
use Rattle.alm_export.specs.Tree.{alarm_members, alarm_items, file_members, kind_name}

kind_read : (k : Kind) → kind_named (kind_name k) ≡ Some k
kind_read High = refl
kind_read Low = refl
kind_read Discrete = refl

between : (least most n : ℕ) → least ≤ n → n ≤ most → (nat_le least n && nat_le n most) ≡ true
between least most n l m = rw (le-leb least n l, le-leb n most m) refl

-- the table of an alarm reads as that alarm
pub read_one : (a : Attr) (n areas : ℕ) → a.area < areas → read_alarm n areas (alarm_members a) ≡ Ok (element_of a)
read_one a n areas h =
    let setpoint : is_reading a.setpoint ≡ true = search (rules, a.setpoint_range) in
    let tag : is_tag a.tag ≡ true = a.tag_limits in
    let text : is_text a.text ≡ true = a.text_limits in
    rw (
      kind_read a.kind,
      setpoint,
      between 1 4 a.priority a.priority_limits.0 a.priority_limits.1,
      between 0 (areas - 1) a.area (omega arith) (omega (arith, h)),
      between 0 (deadband_limit a.kind) a.deadband (omega arith) a.deadband_limit,
      between 0 604800 a.max_shelve (omega arith) a.max_shelve_limit,
      tag,
      text,
    ) refl

-- the tables of alarms read as those alarms
pub read_all : (attrs : List Attr) (n areas : ℕ) → All (λ a. a.area < areas) attrs → read_alarms n areas (alarm_items attrs) ≡ Ok (map element_of attrs)
read_all [] n areas h = refl
read_all (a ∷ attrs) n areas h = rw (read_one a n areas (All-head (λ b. b.area < areas) a attrs h), read_all attrs (n + 1) areas (All-tail (λ b. b.area < areas) a attrs h)) refl

all_tables : (attrs : List Attr) → are_tables (alarm_items attrs) ≡ true
all_tables [] = refl
all_tables (a ∷ attrs) = all_tables attrs

count_all : (attrs : List Attr) → count (alarm_items attrs) ≡ length attrs
count_all [] = refl
count_all (a ∷ attrs) = ap suc (count_all attrs)

-- the file reads as the size and the table
pub read_whole : (size areas : ℕ) (attrs : List Attr) → 1 ≤ size → size ≤ 1099511627776 → 1 ≤ areas → areas ≤ 64 → 1 ≤ length attrs → length attrs ≤ 16384 → All (λ a. a.area < areas) attrs
    → read_file (file_members size areas attrs) ≡ Ok (device_table size (record { alarms = attrs; areas = areas }))
read_whole size areas attrs s t a b l m h =
    rw (
      between 1 1099511627776 size s t,
      between 1 64 areas a b,
      all_tables attrs,
      count_all attrs,
      between 1 16384 (length attrs) l m,
      read_all attrs 0 areas h,
    ) refl

items_shallow : (attrs : List Attr) → items_depth (alarm_items attrs) ≤ 1
items_shallow [] = omega arith
items_shallow (a ∷ attrs) = omega (arith, items_shallow attrs)

-- the tree is no deeper than what TOML reads
pub shallow : (size areas : ℕ) (attrs : List Attr) → members_depth (file_members size areas attrs) ≤ 80
shallow size areas attrs = omega (arith, items_shallow attrs)
