-- Attributes with the same values are the same.
use Rattle.std.proofs.Common.{◌≡◌, ℕ, ◌≤◌, ◌<◌, Bool, List, ap, subst}
use Rattle.std.specs.Prelude.{ℤ, IsTrue}
use Rattle.std.proofs.Props.{props}
use Rattle.alm_types.specs.Readings.{IsReading}
use Rattle.alm_types.specs.Texts.{is_tag, is_text}
use Rattle.alm_types.specs.Attributes.{deadband_limit}
use Rattle.alm_types.specs.declared.attr.Attr.{Attr}
use Rattle.alm_types.specs.declared.kind.Kind.{Kind}

record Values : Type 0 where
  kind : Kind
  setpoint : ℤ
  deadband : ℕ
  priority : ℕ
  area : ℕ
  latching : Bool
  max_shelve : ℕ
  tag : List ℕ
  text : List ℕ

record Limits (v : Values) : Type 0 where
  setpoint : IsReading v.setpoint
  deadband : v.deadband ≤ deadband_limit v.kind
  priority : (1 ≤ v.priority) × (v.priority ≤ 4)
  area : v.area < 64
  max_shelve : v.max_shelve ≤ 604800
  tag : IsTrue (is_tag v.tag)
  text : IsTrue (is_text v.text)

limits-one : (v : Values) (l m : Limits v) → l ≡ m
limits-one v l m = let one : IsProp (Limits v) = hlevel props in one l m

abbrev made : (v : Values) → Limits v → Attr
made v l = record {
  kind = v.kind;
  setpoint = v.setpoint;
  deadband = v.deadband;
  priority = v.priority;
  area = v.area;
  latching = v.latching;
  max_shelve = v.max_shelve;
  tag = v.tag;
  text = v.text;
  setpoint_range = l.setpoint;
  deadband_limit = l.deadband;
  priority_limits = l.priority;
  area_limit = l.area;
  max_shelve_limit = l.max_shelve;
  tag_limits = l.tag;
  text_limits = l.text;
}

abbrev values : Attr → Values
values a = record {
  kind = a.kind;
  setpoint = a.setpoint;
  deadband = a.deadband;
  priority = a.priority;
  area = a.area;
  latching = a.latching;
  max_shelve = a.max_shelve;
  tag = a.tag;
  text = a.text;
}

abbrev limits : (a : Attr) → Limits (values a)
limits a = record {
  setpoint = a.setpoint_range;
  deadband = a.deadband_limit;
  priority = a.priority_limits;
  area = a.area_limit;
  max_shelve = a.max_shelve_limit;
  tag = a.tag_limits;
  text = a.text_limits;
}

values-same : (a b : Attr) → values a ≡ values b → a ≡ b
values-same a b e = subst (λ (v : Values). (l : Limits v) → a ≡ made v l) e (λ l. ap (λ (m : Limits (values a)). made (values a) m) (limits-one (values a) (limits a) l)) (limits b)

pub same-attr : (a b : Attr) → a.kind ≡ b.kind → a.setpoint ≡ b.setpoint → a.deadband ≡ b.deadband → a.priority ≡ b.priority → a.area ≡ b.area → a.latching ≡ b.latching → a.max_shelve ≡ b.max_shelve → a.tag ≡ b.tag
    → a.text ≡ b.text → a ≡ b
same-attr a b kind setpoint deadband priority area latching longest tag text = let same : values a ≡ values b = cc in values-same a b same
