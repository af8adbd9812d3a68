-- Plants of one image are one plant.
use Rattle.std.proofs.Common.{◌≡◌, ℕ, ◌≤◌, ◌<◌, Bool, List, [], ◌∷◌, ◌++◌, length, Result, Ok, Err, refl, sym, ap, subst, ◌∙◌, arith}
use Rattle.std.specs.Prelude.{IsTrue}
use Rattle.std.proofs.lemmas.List.{append-nil}
use Rattle.alm_types.specs.Texts.{is_tag, is_text}
use Rattle.alm_types.specs.Readings.{IsReading}
use Rattle.alm_types.specs.Attributes.{deadband_limit}
use Rattle.alm_types.specs.declared.attr.Attr.{Attr}
use Rattle.alm_state.specs.Rows.{State}
use Rattle.alm_model.specs.Plant.{Condensed}
use Rattle.alm_model.specs.Rules.{KeepsRules}
use Rattle.alm_codec.specs.declared.fixed.Fixed.{Fixed}
use Rattle.alm_codec.specs.Image.{IsImageText, IsOf}
use Rattle.alm_codec.specs.ImageFields.{Alarm, Area, Image, image, fixed_in, areas_in, alarms_in, image_in}
use Rattle.alm_codec.specs.Reading.{IsBytes}
use Rattle.alm_codec.proofs.Alarms.{alarm_from}
use Rattle.alm_codec.proofs.ImageLaws.{image_lawful}
use Rattle.alm_codec.proofs.Numbers.{ok_is}
use Rattle.std.proofs.Props.{props}
use Rattle.alm_codec.proofs.KeepImage.{image_keeps}
use Rattle.alm_codec.proofs.KeptImage.{rules_kept}
use Rattle.alm_codec.proofs.Spelled.{image_spells}

-- what attributes keep
record Limits (f : Fixed) : Type 0 where
  setpoint : IsReading f.setpoint
  deadband : f.deadband ≤ deadband_limit f.kind
  priority : (1 ≤ f.priority) × (f.priority ≤ 4)
  area : f.area < 64
  max_shelve : f.max_shelve ≤ 604800
  tag : IsTrue (is_tag f.tag)
  text : IsTrue (is_text f.text)

limits_one : (f : Fixed) (p q : Limits f) → p ≡ q
limits_one f p q = let one : IsProp (Limits f) = hlevel props in one p q

abbrev limits_of : (a : Attr) → Limits (fixed_in a)
limits_of a = record { setpoint = a.setpoint_range; deadband = a.deadband_limit; priority = a.priority_limits; area = a.area_limit; max_shelve = a.max_shelve_limit; tag = a.tag_limits; text = a.text_limits }

abbrev made : (f : Fixed) → Limits f → Attr
made f l = record {
  kind = f.kind;
  setpoint = f.setpoint;
  deadband = f.deadband;
  priority = f.priority;
  area = f.area;
  latching = f.latching;
  max_shelve = f.max_shelve;
  tag = f.tag;
  text = f.text;
  setpoint_range = l.setpoint;
  deadband_limit = l.deadband;
  priority_limits = l.priority;
  area_limit = l.area;
  max_shelve_limit = l.max_shelve;
  tag_limits = l.tag;
  text_limits = l.text;
}

same_attr : (a b : Attr) → fixed_in a ≡ fixed_in b → a ≡ b
same_attr a b e =
    subst (λ (f : Fixed). (p : Limits f) → made (fixed_in a) (limits_of a) ≡ made f p) e (λ p. ap (λ (l : Limits (fixed_in a)). made (fixed_in a) l) (limits_one (fixed_in a) (limits_of a) p)) (limits_of b)

cons_parts : {A : Type 0} (x y : A) (xs ys : List A) → x ∷ xs ≡ y ∷ ys → (x ≡ y) × (xs ≡ ys)
cons_parts x y xs ys e = (cc, cc)

both_lists : {A : Type 0} (x y : A) (xs ys : List A) → x ≡ y → xs ≡ ys → x ∷ xs ≡ y ∷ ys
both_lists {A = A} x y xs ys e f = ap (λ (z : A). z ∷ xs) e ∙ ap (λ (zs : List A). y ∷ zs) f

same_areas : (f g : List Bool) (a b : List (List ℕ)) → length a ≡ length f → length b ≡ length g → areas_in f a ≡ areas_in g b → (f ≡ g) × (a ≡ b)
same_areas [] [] [] [] p q e = (refl, refl)
same_areas [] [] [] (y ∷ b) p q e = absurd (omega (arith, q))
same_areas [] [] (x ∷ a) b p q e = absurd (omega (arith, p))
same_areas [] (y ∷ g) (x ∷ a) b p q e = absurd (omega (arith, p))
same_areas [] (y ∷ g) [] [] p q e = absurd (omega (arith, q))
same_areas [] (y ∷ g) [] (z ∷ b) p q e = absurd cc
same_areas (x ∷ f) [] [] b p q e = absurd (omega (arith, p))
same_areas (x ∷ f) [] (z ∷ a) [] p q e = absurd cc
same_areas (x ∷ f) [] (z ∷ a) (y ∷ b) p q e = absurd (omega (arith, q))
same_areas (x ∷ f) (y ∷ g) [] b p q e = absurd (omega (arith, p))
same_areas (x ∷ f) (y ∷ g) (z ∷ a) [] p q e = absurd (omega (arith, q))
same_areas (x ∷ f) (y ∷ g) (z ∷ a) (w ∷ b) p q e =
    let parts = cons_parts _ _ (areas_in f a) (areas_in g b) e in
    let rest = same_areas f g a b (omega (arith, p)) (omega (arith, q)) parts.1 in
    (both_lists x y f g (ap (λ (r : Area). r.flood) parts.0) rest.0, both_lists z w a b (ap (λ (r : Area). r.ages) parts.0) rest.1)

record SameLists (a b : List Attr) (r s : List State) (m n : List (List ℕ)) : Type 0 where
  by_attrs : a ≡ b
  by_rows : r ≡ s
  by_moments : m ≡ n

same_alarms : (a b : List Attr) (r s : List State) (m n : List (List ℕ)) → length a ≡ length r → length m ≡ length r → length b ≡ length s → length n ≡ length s → length r ≡ length s → alarms_in a r m ≡ alarms_in b s n → SameLists a b r s m n
same_alarms [] [] [] [] [] [] p q t u v e = record { by_attrs = refl; by_rows = refl; by_moments = refl }
same_alarms [] [] [] [] [] (w ∷ n) p q t u v e = absurd (omega (arith, u))
same_alarms [] [] [] [] (w ∷ m) n p q t u v e = absurd (omega (arith, q))
same_alarms [] [] [] (w ∷ s) m n p q t u v e = absurd (omega (arith, v))
same_alarms [] [] (w ∷ r) s m n p q t u v e = absurd (omega (arith, p))
same_alarms [] (y ∷ b) [] [] m n p q t u v e = absurd (omega (arith, t))
same_alarms [] (y ∷ b) [] (w ∷ s) m n p q t u v e = absurd (omega (arith, v))
same_alarms [] (y ∷ b) (w ∷ r) s m n p q t u v e = absurd (omega (arith, p))
same_alarms (x ∷ a) b [] s m n p q t u v e = absurd (omega (arith, p))
same_alarms (x ∷ a) b (k ∷ r) [] m n p q t u v e = absurd (omega (arith, v))
same_alarms (x ∷ a) [] (k ∷ r) (l ∷ s) m n p q t u v e = absurd (omega (arith, t))
same_alarms (x ∷ a) (y ∷ b) (k ∷ r) (l ∷ s) [] n p q t u v e = absurd (omega (arith, q))
same_alarms (x ∷ a) (y ∷ b) (k ∷ r) (l ∷ s) (z ∷ m) [] p q t u v e = absurd (omega (arith, u))
same_alarms (x ∷ a) (y ∷ b) (k ∷ r) (l ∷ s) (z ∷ m) (w ∷ n) p q t u v e =
    let parts = cons_parts (alarm_from x k z) (alarm_from y l w) (alarms_in a r m) (alarms_in b s n) e in
    let rest = same_alarms a b r s m n (omega (arith, p)) (omega (arith, q)) (omega (arith, t)) (omega (arith, u)) (omega (arith, v)) parts.1 in
    record {
      by_attrs = both_lists x y a b (same_attr x y (ap (λ (r : Alarm). r.fixed) parts.0)) rest.by_attrs;
      by_rows = both_lists k l r s (ap (λ (r : Alarm). r.state) parts.0) rest.by_rows;
      by_moments = both_lists z w m n (ap (λ (r : Alarm). r.moments) parts.0) rest.by_moments;
    }

abbrev put_plant : ℕ → ℕ → ℕ → List Attr → List State → List (List ℕ) → List (List ℕ) → List Bool → Condensed
put_plant now count next attrs rows ages moments floods = record { panel = record { now = now; count = count; next_stamp = next; attrs = attrs; rows = rows }; kept = record { ages = ages; moments = moments }; floods = floods }

pub same_plant : (p q : Condensed) → KeepsRules p → KeepsRules q → length p.panel.rows ≡ length q.panel.rows → p.panel.count ≡ q.panel.count → image_in p ≡ image_in q → p ≡ q
same_plant p q hp hq rows count e =
    let areas = same_areas p.floods q.floods p.kept.ages q.kept.ages hp.measured hq.measured (ap (λ (i : Image). i.areas) e) in
    let alarms = same_alarms p.panel.attrs q.panel.attrs p.panel.rows q.panel.rows p.kept.moments q.kept.moments hp.attrs hp.recent hq.attrs hq.recent rows (ap (λ (i : Image). i.alarms) e) in
    let now : p.panel.now ≡ q.panel.now = ap (λ (i : Image). i.now) e in
    let next : p.panel.next_stamp ≡ q.panel.next_stamp = ap (λ (i : Image). i.next_stamp) e in
    ap (λ (n : ℕ). put_plant n p.panel.count p.panel.next_stamp p.panel.attrs p.panel.rows p.kept.ages p.kept.moments p.floods) now
    ∙ ap (λ (n : ℕ). put_plant q.panel.now n p.panel.next_stamp p.panel.attrs p.panel.rows p.kept.ages p.kept.moments p.floods) count
    ∙ ap (λ (n : ℕ). put_plant q.panel.now q.panel.count n p.panel.attrs p.panel.rows p.kept.ages p.kept.moments p.floods) next
    ∙ ap (λ (l : List Attr). put_plant q.panel.now q.panel.count q.panel.next_stamp l p.panel.rows p.kept.ages p.kept.moments p.floods) alarms.by_attrs
    ∙ ap (λ (l : List State). put_plant q.panel.now q.panel.count q.panel.next_stamp q.panel.attrs l p.kept.ages p.kept.moments p.floods) alarms.by_rows
    ∙ ap (λ (l : List (List ℕ)). put_plant q.panel.now q.panel.count q.panel.next_stamp q.panel.attrs q.panel.rows l p.kept.moments p.floods) areas.1
    ∙ ap (λ (l : List (List ℕ)). put_plant q.panel.now q.panel.count q.panel.next_stamp q.panel.attrs q.panel.rows q.kept.ages l p.floods) alarms.by_moments
    ∙ ap (λ (l : List Bool). put_plant q.panel.now q.panel.count q.panel.next_stamp q.panel.attrs q.panel.rows q.kept.ages q.kept.moments l) areas.0

-- ---- reading

-- what is encoded is read
pub image_again : (rows areas count : ℕ) (q : Condensed) (bytes rest : List ℕ) → IsOf rows areas count q → IsImageText q bytes → (image rows areas count).read (bytes ++ rest) ≡ Ok (image_in q, rest)
image_again rows areas count q bytes rest of h =
    ap (λ (t : List ℕ). (image rows areas count).read (t ++ rest)) (h.text ∙ sym (image_spells rows areas count q))
    ∙ (image_lawful rows areas count).again (image_in q) rest (image_keeps rows areas count q bytes of h)

ok_image : (i j : Image) (a b : List ℕ) → ◌≡◌ {A = Result (Image × List ℕ) ℕ} (Ok (i, a)) (Ok (j, b)) → i ≡ j
ok_image i j a b e = ap (λ (x : Image × List ℕ). x.0) (ok_is (i, a) (j, b) e)

pub no_image_begins : (q r : Condensed) (a b x y : List ℕ) → IsImageText q a → IsImageText r b → IsOf (length r.panel.rows) (length r.floods) r.panel.count q → a ++ x ≡ b ++ y → q ≡ r
no_image_begins q r a b x y hq hr of e =
    let own : IsOf (length r.panel.rows) (length r.floods) r.panel.count r = record { by_rows = refl; by_areas = refl; by_count = refl } in
    let read = image_again (length r.panel.rows) (length r.floods) r.panel.count in
    same_plant q r hq.rules hr.rules of.by_rows of.by_count
    (ok_image (image_in q) (image_in r) x y (sym (read q a x of hq) ∙ ap (λ (t : List ℕ). (image (length r.panel.rows) (length r.floods) r.panel.count).read t) e ∙ read r b y own hr))

-- what was read is an image
pub image_found : (rows areas count : ℕ) (q : Condensed) (bytes : List ℕ) → (1 ≤ rows) × (rows ≤ 16384) → (1 ≤ areas) × (areas ≤ 64) → IsOf rows areas count q → length q.panel.attrs ≡ rows → length q.kept.moments ≡ rows → length q.kept.ages ≡ areas
    → IsBytes bytes → (image rows areas count).read bytes ≡ Ok (image_in q, []) → IsImageText q bytes
image_found rows areas count q bytes r a of attrs moments ages fits read =
    let t = (image_lawful rows areas count).takes bytes (image_in q, []) fits read in
    let k = rules_kept rows areas count q r a of attrs moments ages t.1 in
    record { rules = k.0; fits = k.1; text = t.0.parts ∙ append-nil ((image rows areas count).spell (image_in q)) ∙ image_spells rows areas count q }

err_ok : (left : ℕ) (x : Image × List ℕ) → ◌≡◌ {A = Result (Image × List ℕ) ℕ} (Err left) (Ok x) → ⊥
err_ok left x e = cc

-- an image is read with no bytes after it
pub image_whole : (rows areas count : ℕ) (q : Condensed) (bytes : List ℕ) → IsOf rows areas count q → IsImageText q bytes → (image rows areas count).read bytes ≡ Ok (image_in q, [])
image_whole rows areas count q bytes of h = ap (λ (t : List ℕ). (image rows areas count).read t) (sym (append-nil bytes)) ∙ image_again rows areas count q bytes [] of h

pub nothing : (bytes : List ℕ) → length bytes < 1 → bytes ≡ []
nothing [] lt = refl
nothing (b ∷ bytes) lt = absurd (omega (arith, lt))

-- the plant that was read is the one that was written
pub image_only : (rows areas count : ℕ) (p q : Condensed) (bytes rest : List ℕ) → IsOf rows areas count p → IsOf rows areas count q → KeepsRules p → IsImageText q bytes → (image rows areas count).read bytes ≡ Ok (image_in p, rest) → p ≡ q
image_only rows areas count p q bytes rest own of rules h read =
    same_plant p q rules h.rules (own.by_rows ∙ sym of.by_rows) (own.by_count ∙ sym of.by_count) (ok_image (image_in p) (image_in q) rest [] (sym read ∙ image_whole rows areas count q bytes of h))

pub image_ends : (rows areas count : ℕ) (q : Condensed) (i : Image) (bytes rest : List ℕ) → IsOf rows areas count q → IsImageText q bytes → (image rows areas count).read bytes ≡ Ok (i, rest) → 1 ≤ length rest → ⊥
image_ends rows areas count q i bytes rest of h read long =
    let same : rest ≡ [] = ap (λ (x : Image × List ℕ). x.1) (ok_is (i, rest) (image_in q, []) (sym read ∙ image_whole rows areas count q bytes of h)) in
    omega (arith, long, ap length same)

pub image_undamaged : (rows areas count left : ℕ) (q : Condensed) (bytes : List ℕ) → IsOf rows areas count q → IsImageText q bytes → (image rows areas count).read bytes ≡ Err left → ⊥
image_undamaged rows areas count left q bytes of h read = err_ok left (image_in q, []) (sym read ∙ image_whole rows areas count q bytes of h)
