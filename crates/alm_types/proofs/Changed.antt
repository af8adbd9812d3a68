-- Attributes with another priority or setpoint, from its limits.
use Rattle.std.proofs.Common.{◌≡◌, ℕ, ◌≤◌, Bool, true, false, refl, ap, sym, ◌∙◌, arith}
use Rattle.std.specs.Prelude.{◌<◌, ℤ, T, ◌&&◌, nat_le, IsTrue}
use Rattle.std.proofs.lemmas.Bool.Decides.{nat_tests}
use Rattle.std.proofs.lemmas.Int.{ints}
use Rattle.std.proofs.Props.{props}
use Rattle.alm_types.specs.Readings.{IsReading, is_reading}
use Rattle.alm_types.specs.Texts.{is_tag, is_text}
use Rattle.alm_types.specs.Attributes.{deadband_limit}
use Rattle.alm_types.specs.Limits.{priority_in, reading_in}
use Rattle.alm_types.specs.Changes.{where_passed, with_priority, with_setpoint}
use Rattle.alm_types.specs.declared.attr.Attr.{Attr}

pub passed : {A : Type 0} (test : Bool) (given : T test → A) (other : A) (h : T test) → where_passed test given other ≡ given h
passed true given other h = refl
passed false given other h = absurd h

holds : (test : Bool) → test ≡ true → T test
holds true e = tt
holds false e = absurd cc

within : (n : ℕ) → (1 ≤ n) × (n ≤ 4) → (nat_le 1 n && nat_le n 4) ≡ true
within n l = let low = l.0 in let high = l.1 in grind (arith, nat_tests)

read : (v : ℤ) → IsReading v → is_reading v ≡ true
read v r = let low = r.0 in let high = r.1 in grind (arith, ints)

-- what attributes keep
record Limits (n : ℕ) (v : ℤ) (a : Attr) : Type 0 where
  setpoint : IsReading v
  deadband : a.deadband ≤ deadband_limit a.kind
  priority : (1 ≤ n) × (n ≤ 4)
  area : a.area < 64
  max_shelve : a.max_shelve ≤ 604800
  tag : IsTrue (is_tag a.tag)
  text : IsTrue (is_text a.text)

limits_one : (n : ℕ) (v : ℤ) (a : Attr) (p q : Limits n v a) → p ≡ q
limits_one n v a p q = let one : IsProp (Limits n v a) = hlevel props in one p q

abbrev made : (n : ℕ) (v : ℤ) (a : Attr) → Limits n v a → Attr
made n v a l = record a {
  setpoint = v;
  priority = n;
  setpoint_range = l.setpoint;
  deadband_limit = l.deadband;
  priority_limits = l.priority;
  area_limit = l.area;
  max_shelve_limit = l.max_shelve;
  tag_limits = l.tag;
  text_limits = l.text;
}

made_one : (n : ℕ) (v : ℤ) (a : Attr) (p q : Limits n v a) → made n v a p ≡ made n v a q
made_one n v a p q = ap (λ (l : Limits n v a). made n v a l) (limits_one n v a p q)

abbrev limits_with : (n : ℕ) (v : ℤ) (a : Attr) → (1 ≤ n) × (n ≤ 4) → IsReading v → Limits n v a
limits_with n v a l r = record { setpoint = r; deadband = a.deadband_limit; priority = l; area = a.area_limit; max_shelve = a.max_shelve_limit; tag = a.tag_limits; text = a.text_limits }

pub priority_is : (n : ℕ) (a : Attr) (s : IsReading a.setpoint) (d : a.deadband ≤ deadband_limit a.kind) (p : (1 ≤ n) × (n ≤ 4)) (r : a.area < 64) (m : a.max_shelve ≤ 604800) (t : IsTrue (is_tag a.tag)) (x : IsTrue (is_text a.text))
    → made n a.setpoint a (record { setpoint = s; deadband = d; priority = p; area = r; max_shelve = m; tag = t; text = x }) ≡ with_priority n a
priority_is n a s d p r m t x =
    let h = holds (nat_le 1 n && nat_le n 4) (within n p) in
    made_one n a.setpoint a (record { setpoint = s; deadband = d; priority = p; area = r; max_shelve = m; tag = t; text = x }) (limits_with n a.setpoint a (priority_in n h) a.setpoint_range)
    ∙ sym (passed (nat_le 1 n && nat_le n 4) (λ k. record a { priority = n; priority_limits = priority_in n k }) a h)

pub setpoint_is : (v : ℤ) (a : Attr) (s : IsReading v) (d : a.deadband ≤ deadband_limit a.kind) (p : (1 ≤ a.priority) × (a.priority ≤ 4)) (r : a.area < 64) (m : a.max_shelve ≤ 604800) (t : IsTrue (is_tag a.tag)) (x : IsTrue (is_text a.text))
    → made a.priority v a (record { setpoint = s; deadband = d; priority = p; area = r; max_shelve = m; tag = t; text = x }) ≡ with_setpoint v a
setpoint_is v a s d p r m t x =
    let h = holds (is_reading v) (read v s) in
    made_one a.priority v a (record { setpoint = s; deadband = d; priority = p; area = r; max_shelve = m; tag = t; text = x }) (limits_with a.priority v a a.priority_limits (reading_in v h))
    ∙ sym (passed (is_reading v) (λ k. record a { setpoint = v; setpoint_range = reading_in v k }) a h)
