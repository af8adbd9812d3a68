-- The format of an image has the laws of a format.
use Rattle.std.proofs.Common.{◌≡◌, ℕ, zero, suc, ◌+◌, ◌-◌, ◌*◌, ◌^◌, ◌≤◌, Bool, true, false, not, ◌&&◌, ◌||◌, cond, eqb, ltb, leb, List, [], ◌∷◌, ◌++◌, length, take, drop, replicate, sum, Option, Some, None, inl, inr, refl, sym, ap, subst, ◌∙◌, arith, ℤ, of_z, to_z}
use Rattle.std.specs.Prelude.{is_some, unwrap_or}
use Rattle.std.specs.Int.{w32, w64}
use Rattle.std.proofs.lemmas.Bool.{eqb-true, and_parts, leb-true}
use Rattle.std.proofs.lemmas.Option.{same_Some, none-some, cond_some}
use Rattle.std.proofs.lemmas.Int.{of_z-to_z}
use Rattle.std.proofs.lemmas.List.{take-append-drop, length-take, length-drop}
use Rattle.alm_types.specs.declared.kind.Kind.{Kind}
use Rattle.alm_types.specs.declared.kind.Kind.TheVariants.{High, Low, Discrete}
use Rattle.alm_types.specs.Texts.{is_tag, is_text, with_padding}
use Rattle.alm_codec.specs.Image.{kind_code, core_code}
use Rattle.alm_state.specs.declared.core_state.Core.{Core}
use Rattle.alm_state.specs.declared.core_state.Core.TheVariants.{Normal, Unack, Acked, RtnUnack, LatchUnack, LatchAcked}
use Rattle.alm_state.specs.Rows.{is_annunciated}
use Rattle.alm_codec.specs.declared.fixed.Fixed.{Fixed}
use Rattle.alm_codec.specs.declared.alarm_flags.AlarmFlags.{AlarmFlags}
use Rattle.alm_codec.specs.Actions.{switch_number, reading_at}
use Rattle.alm_codec.specs.Format.{Format, byte, raw, coded_field, tested_field, ruled_field, both, each, KeepEach}
use Rattle.alm_codec.specs.ImageFields.{Alarm, Area, Image, u32, u64, flag_at, flag, kind_at, kind_field, is_deadband, setpoint, zeros, padded_at, text_in, fixed_fields, core_at, core, flags_code, flags_in, is_flagged, flags, deadline_at, deadline_field, is_stamp, is_moment, moment_fields, moments, alarm_field, ages, is_flooded, area, all_ages, seen_then, areas_of, image}
use Rattle.alm_codec.proofs.Bytes.{chosen}
use Rattle.alm_codec.proofs.Actions.{limited_takes}
use Rattle.alm_codec.proofs.Numbers.{wide32, wide64}
use Rattle.alm_codec.proofs.Formats.{Lawful, byte_lawful, number_lawful, raw_lawful, coded_lawful, tested_lawful, ruled_lawful, both_lawful, each_lawful}

-- one row of a table of codes
table_row : {A : Type 0} (code : A → ℕ) (n k : ℕ) (v w : A) (rest : Option A) → cond (eqb n k) (Some v) rest ≡ Some w → k ≡ code v → (rest ≡ Some w → n ≡ code w) → n ≡ code w
table_row code n k v w rest e is more =
    elim (chosen (eqb n k) (Some v) rest (Some w) e) [
      | inl (t, s) ↦ eqb-true n k t ∙ is ∙ ap code (same_Some v w s)
      | inr (t, s) ↦ more s
    ]

-- a code that encodes no value
table_gap : {A : Type 0} (code : A → ℕ) (n k : ℕ) (w : A) (rest : Option A) → cond (eqb n k) None rest ≡ Some w → (rest ≡ Some w → n ≡ code w) → n ≡ code w
table_gap code n k w rest e more =
    elim (chosen (eqb n k) None rest (Some w) e) [
      | inl (t, s) ↦ absurd (none-some w s)
      | inr (t, s) ↦ more s
    ]

table_end : {A : Type 0} (code : A → ℕ) (n : ℕ) (w : A) → None ≡ Some w → n ≡ code w
table_end code n w e = absurd (none-some w e)

flag_back : (n : ℕ) (b : Bool) → flag_at n ≡ Some b → n ≡ switch_number b
flag_back n b e = table_row switch_number n 0 false b _ e refl (λ e. table_row switch_number n 1 true b _ e refl (table_end switch_number n b))

flag_lawful : Lawful flag
flag_lawful = coded_lawful byte flag_at switch_number byte_lawful (λ n b h e. flag_back n b e)

kind_back : (n : ℕ) (k : Kind) → kind_at n ≡ Some k → n ≡ kind_code k
kind_back n k e = table_row kind_code n 1 High k _ e refl (λ e. table_row kind_code n 2 Low k _ e refl (λ e. table_row kind_code n 3 Discrete k _ e refl (table_end kind_code n k)))

kind_lawful : Lawful kind_field
kind_lawful = coded_lawful byte kind_at kind_code byte_lawful (λ n k h e. kind_back n k e)

core_back : (latching : Bool) (n : ℕ) (c : Core) → core_at latching n ≡ Some c → n ≡ core_code c
core_back true n c e =
    table_row core_code n 0 Normal c _ e refl (λ e. table_row core_code n 1 Unack c _ e refl (λ e. table_row core_code n 2 Acked c _ e refl
    (λ e. table_gap core_code n 3 c _ e (λ e. table_row core_code n 4 LatchUnack c _ e refl (λ e. table_row core_code n 5 LatchAcked c _ e refl (table_end core_code n c))))))
core_back false n c e =
    table_row core_code n 0 Normal c _ e refl (λ e. table_row core_code n 1 Unack c _ e refl (λ e. table_row core_code n 2 Acked c _ e refl
    (λ e. table_row core_code n 3 RtnUnack c _ e refl (λ e. table_gap core_code n 4 c _ e (λ e. table_gap core_code n 5 c _ e (table_end core_code n c))))))

core_lawful : (latching : Bool) → Lawful (core latching)
core_lawful latching = coded_lawful byte (core_at latching) core_code byte_lawful (λ n c h e. core_back latching n c e)

flags_back : (n : ℕ) (f : AlarmFlags) → flags_in n ≡ Some f → n ≡ flags_code f
flags_back n f e =
    table_row flags_code n 0 _ f _ e refl (λ e. table_row flags_code n 1 _ f _ e refl (λ e. table_row flags_code n 2 _ f _ e refl (λ e. table_row flags_code n 3 _ f _ e refl
    (λ e. table_row flags_code n 4 _ f _ e refl (λ e. table_row flags_code n 5 _ f _ e refl (λ e. table_row flags_code n 6 _ f _ e refl (λ e. table_row flags_code n 7 _ f _ e refl (table_end flags_code n f))))))))

flags_lawful : (active : Bool) (c : Core) → Lawful (flags active c)
flags_lawful active c = tested_lawful (coded_field byte flags_in flags_code) (is_flagged active c) (coded_lawful byte flags_in flags_code byte_lawful (λ n f h e. flags_back n f e))

u32_lawful : Lawful u32
u32_lawful = number_lawful w32 (2 ^ 32) wide32

u64_lawful : Lawful u64
u64_lawful = number_lawful w64 (2 ^ 64) wide64

setpoint_lawful : Lawful setpoint
setpoint_lawful = coded_lawful u64 reading_at (of_z w64) u64_lawful (λ n v h e. sym (of_z-to_z w64 n h) ∙ ap (of_z w64) (limited_takes (to_z w64 n) v e).0)

deadline_back : (now max_shelve : ℕ) (shelved : Bool) (n : ℕ) (d : Option ℕ) → deadline_at now max_shelve shelved n ≡ Some d → n ≡ unwrap_or d 0
deadline_back now max_shelve true n d e = ap (λ (x : Option ℕ). unwrap_or x 0) (cond_some (ltb now n && leb n (now + max_shelve)) (Some n) d e).1
deadline_back now max_shelve false n d e =
    let s = cond_some (eqb n 0) None d e in
    eqb-true n 0 s.0 ∙ ap (λ (x : Option ℕ). unwrap_or x 0) s.1

deadline_lawful : (now max_shelve : ℕ) (shelved : Bool) → Lawful (deadline_field now max_shelve shelved)
deadline_lawful now max_shelve shelved = coded_lawful u64 (deadline_at now max_shelve shelved) (λ d. unwrap_or d 0) u64_lawful (λ n d h e. deadline_back now max_shelve shelved n d e)

-- ---- texts with a rest of zeros

zeros_are : (bytes : List ℕ) → zeros bytes ≡ true → bytes ≡ replicate (length bytes) 0
zeros_are [] e = refl
zeros_are (b ∷ bytes) e =
    let p = and_parts (eqb b 0) (zeros bytes) e in
    ap (λ (x : ℕ). x ∷ bytes) (eqb-true b 0 p.0) ∙ ap (λ (x : List ℕ). 0 ∷ x) (zeros_are bytes p.1)

padded_back : (room : ℕ) (test : List ℕ → Bool) (n : ℕ) (field text : List ℕ) → length field ≡ room → padded_at test n field ≡ Some text → field ≡ with_padding room text
padded_back room test n field text len e =
    let s = cond_some (test (take n field) && zeros (drop n field)) (take n field) text e in
    let p = and_parts (test (take n field)) (zeros (drop n field)) s.0 in
    let left : length (drop n field) ≡ room - length (take n field) = omega (arith, length-take n field, length-drop n field) in
    subst (λ (t : List ℕ). field ≡ with_padding room t) s.1
    (sym (take-append-drop n field) ∙ ap (λ (t : List ℕ). take n field ++ t) (zeros_are (drop n field) p.1 ∙ ap (λ (k : ℕ). replicate k 0) left))

abbrev text_pair : ℕ → ℕ → (List ℕ → Bool) → Format (ℕ × List ℕ)
text_pair least room test = both (tested_field byte (λ n. leb least n && leb n room)) (λ n. coded_field (raw room) (padded_at test n) (with_padding room))

text_pair_lawful : (least room : ℕ) (test : List ℕ → Bool) → Lawful (text_pair least room test)
text_pair_lawful least room test =
    both_lawful (tested_field byte (λ n. leb least n && leb n room)) (λ n. coded_field (raw room) (padded_at test n) (with_padding room)) (tested_lawful byte (λ n. leb least n && leb n room) byte_lawful)
    (λ n. coded_lawful (raw room) (padded_at test n) (with_padding room) (raw_lawful room) (λ field text h e. padded_back room test n field text h e))

-- the length that is kept is the text's
kept_length : (least room : ℕ) (test : List ℕ → Bool) (p : ℕ × List ℕ) → (text_pair least room test).Keeps p → p.0 ≡ length p.1
kept_length least room test p h =
    let n : ℕ = p.0 in
    let bounds = cond_some (leb least n && leb n room) n n h.0.1 in
    let few : n ≤ room = leb-true n room (and_parts (leb least n) (leb n room) bounds.0).1 in
    let field : List ℕ = with_padding room p.1 in
    let size : length field ≡ room = h.1.0 in
    let s = cond_some (test (take n field) && zeros (drop n field)) (take n field) p.1 h.1.1 in
    let same : length (take n field) ≡ length p.1 = ap length s.1 in
    omega (arith, length-take n field, same, size, few)

text_is : (n : ℕ) (a b : List ℕ) → n ≡ length a → a ≡ b → ◌≡◌ {A = ℕ × List ℕ} (n, a) (length b, b)
text_is n a b e f = ap (λ (k : ℕ). (k, a)) e ∙ ap (λ (t : List ℕ). (length t, t)) f

text_lawful : (least room : ℕ) (test : List ℕ → Bool) → Lawful (text_in least room test)
text_lawful least room test =
    coded_lawful (text_pair least room test) (λ p. Some p.1) (λ text. (length text, text)) (text_pair_lawful least room test)
    (λ p text h e. text_is p.0 p.1 text (kept_length least room test p h) (same_Some p.1 text e))

-- ---- what is fixed of an alarm

abbrev fields_of_fixed : ℕ → Format (Kind × (ℕ × (ℕ × (Bool × (ℤ × (ℕ × (ℕ × (List ℕ × List ℕ))))))))
fields_of_fixed areas = both kind_field (λ k. both (tested_field byte (λ n. leb 1 n && leb n 4)) (λ _. both (tested_field byte (λ n. ltb n areas)) (λ _. both flag (λ _. both setpoint (λ _. both (tested_field u64 (is_deadband k)) (λ _. both (tested_field u32 (λ n. leb n 604800)) (λ _. both (text_in 1 32 is_tag) (λ _. text_in 0 80 is_text))))))))

fields_of_fixed_lawful : (areas : ℕ) → Lawful (fields_of_fixed areas)
fields_of_fixed_lawful areas =
    both_lawful _ _ kind_lawful (λ k. both_lawful _ _ (tested_lawful byte _ byte_lawful) (λ p. both_lawful _ _ (tested_lawful byte _ byte_lawful) (λ a. both_lawful _ _ flag_lawful (λ l. both_lawful _ _ setpoint_lawful
    (λ s. both_lawful _ _ (tested_lawful u64 (is_deadband k) u64_lawful) (λ d. both_lawful _ _ (tested_lawful u32 _ u32_lawful) (λ m. both_lawful _ _ (text_lawful 1 32 is_tag) (λ t. text_lawful 0 80 is_text))))))))

pub fixed_lawful : (areas : ℕ) → Lawful (fixed_fields areas)
fixed_lawful areas = coded_lawful (fields_of_fixed areas) _ _ (fields_of_fixed_lawful areas) (λ p a h e. ap (λ (a : Fixed). (a.kind, (a.priority, (a.area, (a.latching, (a.setpoint, (a.deadband, (a.max_shelve, (a.tag, a.text))))))))) (same_Some _ a e))

-- ---- moments

moment_fields_lawful : (kept now : ℕ) → Lawful (moment_fields kept now)
moment_fields_lawful kept now = each_lawful (λ s. tested_field u64 (is_moment s)) (λ s n. (s.0 - 1, n)) (λ s. tested_lawful u64 (is_moment s) u64_lawful) (kept, now) 3

abbrev kept_moment : ℕ × ℕ → ℕ → Type 0
kept_moment s n = (tested_field u64 (is_moment s)).Keeps n

-- after the moments that are kept all is zero
moment_zero : (bound n : ℕ) → kept_moment (0, bound) n → n ≡ 0
moment_zero bound n h = eqb-true n 0 (cond_some (eqb n 0) n n h.1).0

take_none : (k : ℕ) → ◌≡◌ {A = List ℕ} (take k []) []
take_none zero = refl
take_none (suc k) = refl

three_back : (kept now a b c : ℕ) → KeepEach (λ s. tested_field u64 (is_moment s)) (λ s n. (s.0 - 1, n)) (kept, now) 3 (a ∷ b ∷ c ∷ []) → a ∷ b ∷ c ∷ [] ≡ with_padding 3 (take kept (a ∷ b ∷ c ∷ []))
three_back zero now a b c h = rw (moment_zero now a h.0, moment_zero a b h.1.0, moment_zero b c h.1.1.0) refl
three_back (suc zero) now a b c h = rw (moment_zero a b h.1.0, moment_zero b c h.1.1.0) refl
three_back (suc (suc zero)) now a b c h = rw (moment_zero b c h.1.1.0) refl
three_back (suc (suc (suc k))) now a b c h = ap (λ (t : List ℕ). with_padding 3 (a ∷ b ∷ c ∷ t)) (sym (take_none k))

moments_back : (kept now : ℕ) (ns ms : List ℕ) → (moment_fields kept now).Keeps ns → take kept ns ≡ ms → ns ≡ with_padding 3 ms
moments_back kept now [] ms h e = absurd h
moments_back kept now (a ∷ []) ms h e = absurd h.1
moments_back kept now (a ∷ b ∷ []) ms h e = absurd h.1.1
moments_back kept now (a ∷ b ∷ c ∷ []) ms h e = three_back kept now a b c h ∙ ap (with_padding 3) e
moments_back kept now (a ∷ b ∷ c ∷ d ∷ ns) ms h e = absurd h.1.1.1

moments_lawful : (kept now : ℕ) → Lawful (moments kept now)
moments_lawful kept now = coded_lawful (moment_fields kept now) (λ ns. Some (take kept ns)) (with_padding 3) (moment_fields_lawful kept now) (λ ns ms h e. moments_back kept now ns ms h (same_Some (take kept ns) ms e))

pub each_length : {S A : Type 0} (f : S → Format A) (next : S → A → S) (s : S) (n : ℕ) (list : List A) → KeepEach f next s n list → length list ≡ n
each_length f next s zero [] h = refl
each_length f next s zero (a ∷ list) h = absurd h
each_length f next s (suc n) [] h = absurd h
each_length f next s (suc n) (a ∷ list) h = omega (arith, each_length f next (next s a) n list h.1)

kept_count : (kept now : ℕ) (ms : List ℕ) → kept ≤ 3 → (moments kept now).Keeps ms → kept ≡ length ms
kept_count kept now ms few h =
    let size : length (with_padding 3 ms) ≡ 3 = each_length (λ s. tested_field u64 (is_moment s)) (λ s n. (s.0 - 1, n)) (kept, now) 3 (with_padding 3 ms) h.0 in
    let same : length (take kept (with_padding 3 ms)) ≡ length ms = ap length (same_Some (take kept (with_padding 3 ms)) ms h.1) in
    omega (arith, length-take kept (with_padding 3 ms), same, size, few)

shelved_is : (now max_shelve : ℕ) (shelved : Bool) (n : ℕ) (d : Option ℕ) → deadline_at now max_shelve shelved n ≡ Some d → shelved ≡ is_some d
shelved_is now max_shelve true n d e = ap (λ (x : Option ℕ). is_some x) (cond_some (ltb now n && leb n (now + max_shelve)) (Some n) d e).1
shelved_is now max_shelve false n d e = ap (λ (x : Option ℕ). is_some x) (cond_some (eqb n 0) None d e).1

-- ---- an alarm

abbrev kept_field : Core → Format ℕ
kept_field c = tested_field byte (λ n. leb n 3 && (not (is_annunciated c) || ltb 0 n))

abbrev stamp_field : ℕ → List ℕ → Core → AlarmFlags → Format ℕ
stamp_field next seen c f = tested_field u64 (is_stamp next seen (is_annunciated c || f.shelved))

abbrev Parts : Type 0
Parts = Fixed × (Bool × (Core × (AlarmFlags × (ℕ × (Option ℕ × (ℕ × List ℕ))))))

abbrev fields_of_alarm : ℕ → ℕ → ℕ → List ℕ → Format Parts
fields_of_alarm now next areas seen = both (fixed_fields areas) (λ a. both flag (λ active. both (core a.latching) (λ c. both (flags active c) (λ f. both (kept_field c) (λ kept. both (deadline_field now a.max_shelve f.shelved) (λ _. both (stamp_field next seen c f) (λ _. moments kept now)))))))

fields_of_alarm_lawful : (now next areas : ℕ) (seen : List ℕ) → Lawful (fields_of_alarm now next areas seen)
fields_of_alarm_lawful now next areas seen =
    both_lawful _ _ (fixed_lawful areas) (λ a. both_lawful _ _ flag_lawful (λ active. both_lawful _ _ (core_lawful a.latching) (λ c. both_lawful _ _ (flags_lawful active c) (λ f. both_lawful _ _ (tested_lawful byte _ byte_lawful)
    (λ kept. both_lawful _ _ (deadline_lawful now a.max_shelve f.shelved) (λ d. both_lawful _ _ (tested_lawful u64 _ u64_lawful) (λ s. moments_lawful kept now)))))))

abbrev parts_of : Alarm → Parts
parts_of x = (x.fixed, (x.state.active, (x.state.core, (record { shelved = is_some x.state.shelved_until; by_design = x.state.by_design; out_of_service = x.state.out_of_service }, (length x.moments, (x.state.shelved_until, (x.state.stamp, x.moments)))))))

abbrev alarm_of : Parts → Alarm
alarm_of p = record {
  fixed = p.0;
  state = record { active = p.1.0; core = p.1.1.0; shelved_until = p.1.1.1.1.1.0; by_design = p.1.1.1.0.by_design; out_of_service = p.1.1.1.0.out_of_service; stamp = p.1.1.1.1.1.1.0 };
  moments = p.1.1.1.1.1.1.1;
}

parts_back : (now next areas : ℕ) (seen : List ℕ) (p : Parts) → (fields_of_alarm now next areas seen).Keeps p → p ≡ parts_of (alarm_of p)
parts_back now next areas seen p h =
    let f : AlarmFlags = p.1.1.1.0 in
    let kept : ℕ = p.1.1.1.1.0 in
    let d : Option ℕ = p.1.1.1.1.1.0 in
    let more : ℕ × List ℕ = p.1.1.1.1.1.1 in
    let c : Core = p.1.1.0 in
    let shelved : f.shelved ≡ is_some d = shelved_is now p.0.max_shelve f.shelved (unwrap_or d 0) d h.1.1.1.1.1.0.1 in
    let test = cond_some (leb kept 3 && (not (is_annunciated c) || ltb 0 kept)) kept kept h.1.1.1.1.0.1 in
    let few : kept ≤ 3 = leb-true kept 3 (and_parts (leb kept 3) (not (is_annunciated c) || ltb 0 kept) test.0).0 in
    let count : kept ≡ length more.1 = kept_count kept now more.1 few h.1.1.1.1.1.1.1 in
    ap (λ (s : Bool). (p.0, (p.1.0, (c, (record { shelved = s; by_design = f.by_design; out_of_service = f.out_of_service }, (kept, (d, more))))))) shelved
    ∙ ap (λ (k : ℕ). (p.0, (p.1.0, (c, (record { shelved = is_some d; by_design = f.by_design; out_of_service = f.out_of_service }, (k, (d, more))))))) count

pub alarm_lawful : (now next areas : ℕ) (seen : List ℕ) → Lawful (alarm_field now next areas seen)
alarm_lawful now next areas seen = coded_lawful (fields_of_alarm now next areas seen) (λ p. Some (alarm_of p)) parts_of (fields_of_alarm_lawful now next areas seen) (λ p x h e. parts_back now next areas seen p h ∙ ap parts_of (same_Some (alarm_of p) x e))

-- ---- an area

ages_lawful : (now : ℕ) → Lawful (ages now)
ages_lawful now = each_lawful (λ j. tested_field u64 (λ n. leb j now || eqb n 0)) (λ j _. j + 1) (λ j. tested_lawful u64 (λ n. leb j now || eqb n 0) u64_lawful) 0 600

area_lawful : (now : ℕ) → Lawful (area now)
area_lawful now =
    coded_lawful (ruled_field (both flag (λ _. ages now)) (λ p. is_flooded p.0 (sum p.1)) 8) _ _ (ruled_lawful (both flag (λ _. ages now)) (λ p. is_flooded p.0 (sum p.1)) 8 (both_lawful flag (λ _. ages now) flag_lawful (λ _. ages_lawful now)))
    (λ p a h e. ap (λ (a : Area). (a.flood, a.ages)) (same_Some _ a e))

-- ---- an image

pub areas_lawful : (now next areas : ℕ) → Lawful (areas_of now next areas)
areas_lawful now next areas = ruled_lawful (each {S = ℕ} (λ _. area now) (λ s _. s) 0 areas) (λ list. ltb (all_ages list) next) 8 (each_lawful (λ _. area now) (λ s _. s) (λ _. area_lawful now) 0 areas)

alarms_lawful : (now next areas rows : ℕ) → Lawful (each (alarm_field now next areas) (λ seen a. seen_then seen a.state.stamp) [] rows)
alarms_lawful now next areas rows = each_lawful (alarm_field now next areas) (λ seen a. seen_then seen a.state.stamp) (alarm_lawful now next areas) [] rows

pub image_lawful : (rows areas count : ℕ) → Lawful (image rows areas count)
image_lawful rows areas count =
    coded_lawful (both (tested_field u64 (λ n. ltb n (2 ^ 40))) (λ now. both (tested_field u64 (λ n. leb 1 n && leb n (1 + 16384 * count))) (λ next. both (areas_of now next areas) (λ _. each (alarm_field now next areas) (λ seen a. seen_then seen a.state.stamp) [] rows)))) _ _
    (both_lawful _ _ (tested_lawful u64 _ u64_lawful) (λ now. both_lawful _ _ (tested_lawful u64 _ u64_lawful) (λ next. both_lawful _ _ (areas_lawful now next areas) (λ _. alarms_lawful now next areas rows))))
    (λ p i h e. ap (λ (i : Image). (i.now, (i.next_stamp, (i.areas, i.alarms)))) (same_Some _ i e))
