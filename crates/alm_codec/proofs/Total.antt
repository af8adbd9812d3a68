-- Bytes without damage are the image of a plant.
use Rattle.std.proofs.Common.{◌≡◌, ℕ, zero, suc, ◌-◌, ◌≤◌, Bool, true, ◌&&◌, List, [], ◌∷◌, length, map, take, drop, Option, Some, None, Result, Ok, Err, refl, sym, ap, subst, ◌∙◌, arith}
use Rattle.std.specs.Prelude.{option_map}
use Rattle.std.specs.Int.{w64, cast_signed, cast_unsigned}
use Rattle.std.proofs.lemmas.Bool.{and_parts}
use Rattle.std.proofs.lemmas.List.{length-map}
use Rattle.std.proofs.lemmas.Option.{cond_some}
use Rattle.alm_types.specs.Texts.{is_tag, is_text, with_padding}
use Rattle.alm_types.specs.declared.attr.Attr.{Attr}
use Rattle.alm_state.specs.Rows.{State}
use Rattle.alm_model.specs.Plant.{Condensed}
use Rattle.alm_codec.specs.declared.fixed.Fixed.{Fixed}
use Rattle.alm_codec.specs.Format.{KeepEach}
use Rattle.alm_codec.specs.Image.{IsImageText, IsOf}
use Rattle.alm_codec.specs.ImageFields.{Alarm, Area, Image, alarm_field, area, fixed_in, text_in, zeros, seen_then, image, areas_in, alarms_in, image_in, damage_in, left_at}
use Rattle.alm_codec.specs.Reading.{IsBytes}
use Rattle.alm_codec.proofs.Actions.{limited_takes}
use Rattle.alm_codec.proofs.ImageLaws.{image_lawful, each_length}
use Rattle.alm_codec.proofs.KeptAlarm.{facts}
use Rattle.alm_codec.proofs.SameImage.{image_found, image_whole}

-- a text that is kept passes its test
text_passes : (least room : ℕ) (test : List ℕ → Bool) (text : List ℕ) → (text_in least room test).Keeps text → test text ≡ true
text_passes least room test text h =
    let field : List ℕ = with_padding room text in
    let g = cond_some (test (take (length text) field) && zeros (drop (length text) field)) (take (length text) field) text h.0.1.1 in
    subst (λ (t : List ℕ). test t ≡ true) g.1 (and_parts (test (take (length text) field)) (zeros (drop (length text) field)) g.0).0

-- the attributes of an alarm that is kept
record Attributes (f : Fixed) : Type 0 where
  attr : Attr
  is : fixed_in attr ≡ f

attributes : (now next areas : ℕ) (seen : List ℕ) (x : Alarm) → areas ≤ 64 → (alarm_field now next areas seen).Keeps x → Attributes x.fixed
attributes now next areas seen x few h =
    let k = facts now next areas seen x h in
    let f = x.fixed in
    let p = h.0.0.0 in
    record {
      attr = record {
        kind = f.kind;
        setpoint = f.setpoint;
        deadband = f.deadband;
        priority = f.priority;
        area = f.area;
        latching = f.latching;
        max_shelve = f.max_shelve;
        tag = f.tag;
        text = f.text;
        setpoint_range = (limited_takes (cast_signed w64 (cast_unsigned w64 f.setpoint)) f.setpoint p.1.1.1.1.0.1).1;
        deadband_limit = k.deadband;
        priority_limits = k.priority;
        area_limit = omega (arith, k.area, few);
        max_shelve_limit = k.max_shelve;
        tag_limits = text_passes 1 32 is_tag f.tag p.1.1.1.1.1.1.1.0;
        text_limits = text_passes 0 80 is_text f.text p.1.1.1.1.1.1.1.1;
      };
      is = refl;
    }

-- alarms by their attributes, rows and moments
record Made (list : List Alarm) : Type 0 where
  attrs : List Attr
  rows : List State
  moments : List (List ℕ)
  is : alarms_in attrs rows moments ≡ list
  by_attrs : length attrs ≡ length list
  by_rows : length rows ≡ length list
  by_moments : length moments ≡ length list

made : (now next areas n : ℕ) (seen : List ℕ) (list : List Alarm) → areas ≤ 64 → KeepEach (alarm_field now next areas) (λ seen a. seen_then seen a.state.stamp) seen n list → Made list
made now next areas zero seen [] few h = record { attrs = []; rows = []; moments = []; is = refl; by_attrs = refl; by_rows = refl; by_moments = refl }
made now next areas zero seen (x ∷ list) few h = absurd h
made now next areas (suc n) seen [] few h = absurd h
made now next areas (suc n) seen (x ∷ list) few h =
    let a = attributes now next areas seen x few h.0 in
    let m = made now next areas n (seen_then seen x.state.stamp) list few h.1 in
    record {
      attrs = a.attr ∷ m.attrs;
      rows = x.state ∷ m.rows;
      moments = x.moments ∷ m.moments;
      is = (λ i. record { fixed = a.is i; state = x.state; moments = x.moments } ∷ m.is i);
      by_attrs = omega (arith, m.by_attrs);
      by_rows = omega (arith, m.by_rows);
      by_moments = omega (arith, m.by_moments);
    }

areas_again : (list : List Area) → areas_in (map (λ (a : Area). a.flood) list) (map (λ (a : Area). a.ages) list) ≡ list
areas_again [] = refl
areas_again (a ∷ list) = ap (λ (l : List Area). a ∷ l) (areas_again list)

not_mapped : (f : ℕ → ℕ) (o : Option ℕ) → option_map f o ≡ None → o ≡ None
not_mapped f None e = refl
not_mapped f (Some n) e = absurd cc

no_left : (r : Result (Image × List ℕ) ℕ) → left_at r ≡ None → (i : Image) × (r ≡ Ok (i, []))
no_left (Ok (i, [])) e = (i, refl)
no_left (Ok (i, x ∷ rest)) e = absurd cc
no_left (Err left) e = absurd cc

pub image_there : (rows areas count : ℕ) (bytes : List ℕ) → (1 ≤ rows) × (rows ≤ 16384) → (1 ≤ areas) × (areas ≤ 64) → IsBytes bytes → damage_in rows areas count bytes ≡ None → (q : Condensed) × IsOf rows areas count q × IsImageText q bytes
image_there rows areas count bytes r a fits e =
    let read = no_left ((image rows areas count).read bytes) (not_mapped (λ left. length bytes - left) (left_at ((image rows areas count).read bytes)) e) in
    let i = read.0 in
    let k = ((image_lawful rows areas count).takes bytes (i, []) fits read.1).1.0 in
    let m = made i.now i.next_stamp areas rows [] i.alarms a.1 k.1.1.1 in
    let alarms : length i.alarms ≡ rows = each_length (alarm_field i.now i.next_stamp areas) (λ seen a. seen_then seen a.state.stamp) [] rows i.alarms k.1.1.1 in
    let by_area : length i.areas ≡ areas = each_length {S = ℕ} (λ _. area i.now) (λ s _. s) 0 areas i.areas k.1.1.0.0 in
    let q : Condensed = record {
      panel = record { now = i.now; count = count; next_stamp = i.next_stamp; attrs = m.attrs; rows = m.rows };
      kept = record { ages = map (λ (a : Area). a.ages) i.areas; moments = m.moments };
      floods = map (λ (a : Area). a.flood) i.areas;
    } in
    let same : image_in q ≡ i = (λ j. record { now = i.now; next_stamp = i.next_stamp; areas = areas_again i.areas j; alarms = m.is j }) in
    let of : IsOf rows areas count q = record { by_rows = m.by_rows ∙ alarms; by_areas = length-map i.areas (λ (a : Area). a.flood) ∙ by_area; by_count = refl } in
    (q, of, image_found rows areas count q bytes r a of (m.by_attrs ∙ alarms) (m.by_moments ∙ alarms) (length-map i.areas (λ (a : Area). a.ages) ∙ by_area) fits (read.1 ∙ ap (λ (x : Image). Ok (x, [])) (sym same)))

pub image_sound : (rows areas count : ℕ) (bytes : List ℕ) (q : Condensed) → IsOf rows areas count q → IsImageText q bytes → damage_in rows areas count bytes ≡ None
image_sound rows areas count bytes q of h = ap (λ r. option_map (λ left. length bytes - left) (left_at r)) (image_whole rows areas count q bytes of h)
