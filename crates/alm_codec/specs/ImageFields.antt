-- The fields of an image in their order, each with its rules: the damaged one is the first that breaks a rule.
use Rattle.std.specs.Prelude.{ℕ, ◌+◌, ◌-◌, ◌*◌, ◌^◌, List, [], ◌∷◌, length, take, drop, sum, sum_by, Bool, true, false, not, ◌&&◌, ◌||◌, Option, Some, None, is_some, unwrap_or, option_map, Result, Ok, Err, ℤ, nat_lt, nat_le, ◌==◌, if◌then◌else◌}
use Rattle.std.specs.List.{list_all, list_any}
use Rattle.std.specs.Ordering.{nat_cmp}
use Rattle.std.specs.BTreeMap.{is_at}
use Rattle.std.specs.BTreeSet.{insert_key}
use Rattle.std.specs.Int.{w32, w64, cast_unsigned}
use Rattle.alm_types.specs.declared.kind.Kind.{Kind}
use Rattle.alm_types.specs.declared.kind.Kind.TheVariants.{High, Low, Discrete}
use Rattle.alm_types.specs.Texts.{is_tag, is_text, with_padding}
use Rattle.alm_types.specs.Attributes.{deadband_limit}
use Rattle.alm_types.specs.declared.attr.Attr.{Attr}
use Rattle.alm_state.specs.declared.core_state.Core.{Core}
use Rattle.alm_state.specs.declared.core_state.Core.TheVariants.{Normal, Unack, Acked, RtnUnack, LatchUnack, LatchAcked}
use Rattle.alm_state.specs.Rows.{State, is_annunciated, is_active_core}
use Rattle.alm_codec.specs.declared.fixed.Fixed.{Fixed}
use Rattle.alm_codec.specs.declared.alarm_flags.AlarmFlags.{AlarmFlags}
use Rattle.alm_state.specs.Showing.{weight}
use Rattle.alm_model.specs.Plant.{Condensed}
use Rattle.alm_codec.specs.Actions.{switch_number, reading_at}
use Rattle.alm_codec.specs.Image.{kind_code, core_code}
use Rattle.alm_codec.specs.Format.{Format, byte, number_field, raw, coded_field, tested_field, ruled_field, both, each}
use Rattle.alm_types.specs.Sizes.{most_alarms}

-- ---- what an image encodes

-- an alarm and its last moments, the newest first
pub record Alarm : Type 0 where
  pub fixed : Fixed
  pub state : State
  pub moments : List ℕ

pub record Area : Type 0 where
  pub flood : Bool
  pub ages : List ℕ

pub record Image : Type 0 where
  pub now : ℕ
  pub next_stamp : ℕ
  pub areas : List Area
  pub alarms : List Alarm

-- ---- fields

abbrev pub u32 : Format ℕ
u32 = number_field w32 (2 ^ 32)

abbrev pub u64 : Format ℕ
u64 = number_field w64 (2 ^ 64)

abbrev pub flag_at : ℕ → Option Bool
flag_at n = if n == 0 then Some false else if n == 1 then Some true else None

-- 1 on, 0 off
abbrev pub flag : Format Bool
flag = coded_field byte flag_at switch_number

abbrev pub kind_at : ℕ → Option Kind
kind_at n = if n == 1 then Some High else if n == 2 then Some Low else if n == 3 then Some Discrete else None

abbrev pub kind_field : Format Kind
kind_field = coded_field byte kind_at kind_code

abbrev pub setpoint : Format ℤ
setpoint = coded_field u64 reading_at (cast_unsigned w64)

abbrev pub zeros : List ℕ → Bool
zeros bytes = list_all (λ b. b == 0) bytes

-- a text of a length that passes a test, if the rest of its field is zero
abbrev pub padded_at : (List ℕ → Bool) → ℕ → List ℕ → Option (List ℕ)
padded_at test n field = if test (take n field) && zeros (drop n field) then Some (take n field) else None

-- a length, and a text with its rest
abbrev pub text_in : ℕ → ℕ → (List ℕ → Bool) → Format (List ℕ)
text_in least room test =
    coded_field (both (tested_field byte (λ n. nat_le least n && nat_le n room)) (λ n. coded_field (raw room) (padded_at test n) (with_padding room))) (λ p. Some p.1) (λ text. (length text, text))

-- ---- what is fixed of an alarm

-- a discrete alarm has no deadband
abbrev pub is_deadband : Kind → ℕ → Bool
is_deadband k n = nat_le n (deadband_limit k)

abbrev pub fixed_fields : ℕ → Format Fixed
fixed_fields areas =
    coded_field (both kind_field (λ k. both (tested_field byte (λ n. nat_le 1 n && nat_le n 4)) (λ _. both (tested_field byte (λ n. nat_lt n areas)) (λ _. both flag (λ _. both setpoint (λ _. both (tested_field u64 (is_deadband k)) (λ _. both (tested_field u32 (λ n. nat_le n 604800)) (λ _. both (text_in 1 32 is_tag) (λ _. text_in 0 80 is_text)))))))))
    (λ p. Some (record { kind = p.0; priority = p.1.0; area = p.1.1.0; latching = p.1.1.1.0; setpoint = p.1.1.1.1.0; deadband = p.1.1.1.1.1.0; max_shelve = p.1.1.1.1.1.1.0; tag = p.1.1.1.1.1.1.1.0; text = p.1.1.1.1.1.1.1.1 }))
    (λ a. (a.kind, (a.priority, (a.area, (a.latching, (a.setpoint, (a.deadband, (a.max_shelve, (a.tag, a.text)))))))))

-- ---- the state of an alarm

-- a latching alarm is never RtnUnack, another is in no latched state
abbrev pub core_at : Bool → ℕ → Option Core
core_at latching n =
    if n == 0 then Some Normal
    else if n == 1 then Some Unack
    else if n == 2 then Some Acked
    else if n == 3 then (if latching then None else Some RtnUnack)
    else if n == 4 then (if latching then Some LatchUnack else None)
    else if n == 5 then (if latching then Some LatchAcked else None)
    else None

abbrev pub core : Bool → Format Core
core latching = coded_field byte (core_at latching) core_code

abbrev pub flags_code : AlarmFlags → ℕ
flags_code f = weight 1 f.shelved + weight 2 f.by_design + weight 4 f.out_of_service

abbrev pub flags_in : ℕ → Option AlarmFlags
flags_in n =
    if n == 0 then Some (record { shelved = false; by_design = false; out_of_service = false })
    else if n == 1 then Some (record { shelved = true; by_design = false; out_of_service = false })
    else if n == 2 then Some (record { shelved = false; by_design = true; out_of_service = false })
    else if n == 3 then Some (record { shelved = true; by_design = true; out_of_service = false })
    else if n == 4 then Some (record { shelved = false; by_design = false; out_of_service = true })
    else if n == 5 then Some (record { shelved = true; by_design = false; out_of_service = true })
    else if n == 6 then Some (record { shelved = false; by_design = true; out_of_service = true })
    else if n == 7 then Some (record { shelved = true; by_design = true; out_of_service = true })
    else None

abbrev pub same_bool : Bool → Bool → Bool
same_bool true b = b
same_bool false b = not b

-- with a flag set the alarm is Normal, without one it is active exactly in Unack and Acked
abbrev pub is_flagged : Bool → Core → AlarmFlags → Bool
is_flagged active c f = if f.shelved || f.by_design || f.out_of_service then not (is_annunciated c) else same_bool active (is_active_core c)

abbrev pub flags : Bool → Core → Format AlarmFlags
flags active c = tested_field (coded_field byte flags_in flags_code) (is_flagged active c)

-- a deadline is zero if the alarm is not shelved, else later than now and not too late
abbrev pub deadline_at : ℕ → ℕ → Bool → ℕ → Option (Option ℕ)
deadline_at now max_shelve true n = if nat_lt now n && nat_le n (now + max_shelve) then Some (Some n) else None
deadline_at now max_shelve false n = if n == 0 then Some None else None

abbrev pub deadline_field : ℕ → ℕ → Bool → Format (Option ℕ)
deadline_field now max_shelve shelved = coded_field u64 (deadline_at now max_shelve shelved) (λ d. unwrap_or d 0)

-- the stamps seen so far, in order
abbrev pub is_among : ℕ → List ℕ → Bool
is_among n seen = list_any (is_at (nat_cmp n)) seen

abbrev pub seen_then : List ℕ → ℕ → List ℕ
seen_then seen n = if n == 0 then seen else insert_key nat_cmp seen n

-- a stamp is above 0 exactly if the alarm is annunciated or shelved; it was given before, and is none of those seen so
-- far
abbrev pub is_stamp : ℕ → List ℕ → Bool → ℕ → Bool
is_stamp next seen true n = nat_lt 0 n && nat_lt n next && not (is_among n seen)
is_stamp next seen false n = n == 0

-- a number of moments, none above the one before it, and then zeros
abbrev pub is_moment : ℕ × ℕ → ℕ → Bool
is_moment s n = if s.0 == 0 then n == 0 else nat_le n s.1

abbrev pub moment_fields : ℕ → ℕ → Format (List ℕ)
moment_fields kept now = each (λ s. tested_field u64 (is_moment s)) (λ s n. (s.0 - 1, n)) (kept, now) 3

abbrev pub moments : ℕ → ℕ → Format (List ℕ)
moments kept now = coded_field (moment_fields kept now) (λ ns. Some (take kept ns)) (with_padding 3)

-- ---- an alarm

abbrev pub alarm_field : ℕ → ℕ → ℕ → List ℕ → Format Alarm
alarm_field now next areas seen =
    coded_field (both (fixed_fields areas) (λ a. both flag (λ active. both (core a.latching) (λ c. both (flags active c) (λ f. both (tested_field byte (λ n. nat_le n 3 && (not (is_annunciated c) || nat_lt 0 n))) (λ kept. both (deadline_field now a.max_shelve f.shelved) (λ _. both (tested_field u64 (is_stamp next seen (is_annunciated c || f.shelved))) (λ _. moments kept now))))))))
    (λ p. Some (record {
      fixed = p.0;
      state = record { active = p.1.0; core = p.1.1.0; shelved_until = p.1.1.1.1.1.0; by_design = p.1.1.1.0.by_design; out_of_service = p.1.1.1.0.out_of_service; stamp = p.1.1.1.1.1.1.0 };
      moments = p.1.1.1.1.1.1.1;
    }))
    (λ x. (x.fixed, (x.state.active, (x.state.core, (record { shelved = is_some x.state.shelved_until; by_design = x.state.by_design; out_of_service = x.state.out_of_service }, (length x.moments, (x.state.shelved_until, (x.state.stamp, x.moments))))))))

-- ---- an area

-- no annunciation is older than the plant
abbrev pub age_field : ℕ → ℕ → Format ℕ
age_field now j = tested_field u64 (λ n. nat_le j now || (n == 0))

abbrev pub ages : ℕ → Format (List ℕ)
ages now = each (age_field now) (λ j _. j + 1) 0 600

-- a flood if the window is above 10, and none if it is below 5
abbrev pub is_flooded : Bool → ℕ → Bool
is_flooded true window = nat_le 5 window
is_flooded false window = nat_le window 10

abbrev pub area : ℕ → Format Area
area now = coded_field (ruled_field (both flag (λ _. ages now)) (λ p. is_flooded p.0 (sum p.1)) 8) (λ p. Some (record { flood = p.0; ages = p.1 })) (λ a. (a.flood, a.ages))

-- ---- an image

abbrev pub all_ages : List Area → ℕ
all_ages areas = sum_by (λ a. sum a.ages) areas

abbrev pub each_area : ℕ → ℕ → Format (List Area)
each_area now areas = each {S = ℕ} (λ _. area now) (λ s _. s) 0 areas

-- annunciations have stamps of their own, all below the next
abbrev pub areas_of : ℕ → ℕ → ℕ → Format (List Area)
areas_of now next areas = ruled_field (each_area now areas) (λ list. nat_lt (all_ages list) next) 8

-- no two alarms have one stamp
abbrev pub alarms_of : ℕ → ℕ → ℕ → ℕ → Format (List Alarm)
alarms_of now next areas rows = each (alarm_field now next areas) (λ seen a. seen_then seen a.state.stamp) [] rows

-- a moment of the clock
abbrev pub moment_field : Format ℕ
moment_field = tested_field u64 (λ n. nat_lt n (2 ^ 40))

-- the next stamp after a number of actions
abbrev pub next_stamp : ℕ → Format ℕ
next_stamp count = tested_field u64 (λ n. nat_le 1 n && nat_le n (1 + most_alarms * count))

-- the image of a plant of these rows and areas after `count` actions
abbrev pub image : ℕ → ℕ → ℕ → Format Image
image rows areas count =
    coded_field (both moment_field (λ now. both (next_stamp count) (λ next. both (areas_of now next areas) (λ _. alarms_of now next areas rows))))
    (λ p. Some (record { now = p.0; next_stamp = p.1.0; areas = p.1.1.0; alarms = p.1.1.1 }))
    (λ i. (i.now, (i.next_stamp, (i.areas, i.alarms))))

-- ---- what an image encodes of a plant

abbrev pub fixed_in : Attr → Fixed
fixed_in a = record { kind = a.kind; priority = a.priority; area = a.area; latching = a.latching; setpoint = a.setpoint; deadband = a.deadband; max_shelve = a.max_shelve; tag = a.tag; text = a.text }

abbrev pub areas_in : List Bool → List (List ℕ) → List Area
areas_in (flood ∷ floods) (ages ∷ others) = record { flood = flood; ages = ages } ∷ areas_in floods others
areas_in _ _ = []

abbrev pub alarms_in : List Attr → List State → List (List ℕ) → List Alarm
alarms_in (a ∷ attrs) (s ∷ rows) (ms ∷ moments) = record { fixed = fixed_in a; state = s; moments = ms } ∷ alarms_in attrs rows moments
alarms_in _ _ _ = []

abbrev pub image_in : Condensed → Image
image_in q = record { now = q.panel.now; next_stamp = q.panel.next_stamp; areas = areas_in q.floods q.kept.ages; alarms = alarms_in q.panel.attrs q.panel.rows q.kept.moments }

-- ---- damage

-- how many bytes are left at the first damaged field, and none if the bytes are an image; bytes after it are damage
abbrev pub left_at : Result (Image × List ℕ) ℕ → Option ℕ
left_at (Ok (i, [])) = None
left_at (Ok (i, rest)) = Some (length rest)
left_at (Err left) = Some left

-- the place of the first damaged field
abbrev pub damage_in : ℕ → ℕ → ℕ → List ℕ → Option ℕ
damage_in rows areas count bytes = option_map (λ left. length bytes - left) (left_at ((image rows areas count).read bytes))
