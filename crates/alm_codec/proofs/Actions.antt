-- What is read as an action is its text, and the text of an action is read as it.
use Rattle.std.proofs.Common.{◌≡◌, ℕ, zero, suc, ◌^◌, ◌<◌, Bool, true, false, ◌&&◌, cond, eqb, ltb, List, [], ◌∷◌, ◌++◌, length, take, drop, get_or, Option, Some, None, inl, inr, refl, sym, ap, subst, ◌∙◌, arith, ℤ, pos, negsuc, of_z, to_z, FitsSigned}
use Rattle.std.specs.Prelude.{option_map, IfOk}
use Rattle.std.specs.Option.{ok_or}
use Rattle.alm_codec.specs.declared.damage.Damage.{Damage}
use Rattle.std.specs.Int.{w32, w64, from_be_bytes, to_be_bytes}
use Rattle.std.proofs.lemmas.Int.{ints, to_z-of_z, of_z-to_z}
use Rattle.std.proofs.lemmas.Bool.{eqb-true, ltb-true, lt-ltb, and_parts}
use Rattle.std.proofs.lemmas.Option.{same_Some, none-some}
use Rattle.std.proofs.lemmas.Nat.{be_bytes_4, be_bytes_8, from_be_bytes-to_be_bytes_4, from_be_bytes-to_be_bytes_8}
use Rattle.alm_types.specs.declared.action.Action.{Action}
use Rattle.alm_types.specs.declared.action.Action.TheVariants.{Clock, Value, Ack, Reset, Shelve, Unshelve, Oos, Design, SetPriority, SetSetpoint}
use Rattle.alm_types.specs.declared.alarm_id.AlarmId.{AlarmId}
use Rattle.alm_types.specs.Actions.{alarm_of, HasArgument, IsAction}
use Rattle.alm_types.specs.Readings.{IsReading}
use Rattle.alm_codec.specs.Actions.{kind_of, argument_of, switch_number, fields_text, text_by, action_text, asked_text, if_reading, reading_at, without_argument, either_way, action_meant, action_at, action_in, asked_by, asked_at}
use Rattle.alm_codec.specs.declared.asked.Asked.{Asked}
use Rattle.alm_codec.specs.declared.version.Version.TheVariants.{V01, V02, V03}
use Rattle.alm_codec.specs.declared.version.Version.{Version}
use Rattle.alm_codec.specs.Versions.{bears, IsBorne, IsSaid, borne, is_asker}
use Rattle.alm_codec.specs.Reading.{IsBytes}
use Rattle.alm_codec.proofs.Bytes.{IsBytes-drop, IsBytes-take, chosen}

-- ---- what is encoded so is read

pub text_again : (kind alarm argument : ℕ) → alarm < 2 ^ 32 → argument < 2 ^ 64 → action_at (fields_text kind 0 alarm argument) ≡ action_meant kind alarm argument
text_again kind alarm argument small fits =
    ap (λ (n : ℕ). action_meant kind n (from_be_bytes w64 (to_be_bytes w64 argument))) (from_be_bytes-to_be_bytes_4 alarm small)
    ∙ ap (λ (n : ℕ). action_meant kind alarm n) (from_be_bytes-to_be_bytes_8 argument fits)

limited_again : (v : ℤ) → IsReading v → if_reading v ≡ Some v
limited_again v h = grind (arith, ints)

pub reading_again : (v : ℤ) → IsReading v → reading_at (of_z w64 v) ≡ Some v
reading_again v h =
    let fits : FitsSigned w64 v = omega (arith, ints) in
    ap if_reading (to_z-of_z w64 v fits) ∙ limited_again v h

meaning_again : (a : Action) → HasArgument a → action_meant (kind_of a) (alarm_of a) (argument_of a) ≡ Some a
meaning_again (Clock t) h = rw (lt-ltb t (2 ^ 40) h) refl
meaning_again (Value i v) h = ap (option_map (Value i)) (reading_again v h)
meaning_again (Ack i) h = refl
meaning_again (Reset i) h = refl
meaning_again (Shelve i seconds) h = rw (lt-ltb seconds (2 ^ 32) h) refl
meaning_again (Unshelve i) h = refl
meaning_again (Oos i true) h = refl
meaning_again (Oos i false) h = refl
meaning_again (Design i true) h = refl
meaning_again (Design i false) h = refl
meaning_again (SetPriority i priority) h = rw (lt-ltb priority (2 ^ 32) h) refl
meaning_again (SetSetpoint i v) h = ap (option_map (SetSetpoint i)) (reading_again v h)

pub word_fits : (v : ℤ) → IsReading v → of_z w64 v < 2 ^ 64
word_fits (pos n) h = omega (arith, ints)
word_fits (negsuc n) h = omega (arith, ints)

switch_fits : (on : Bool) → switch_number on < 2 ^ 64
switch_fits true = omega arith
switch_fits false = omega arith

argument_fits : (a : Action) → HasArgument a → argument_of a < 2 ^ 64
argument_fits (Clock t) h = omega arith
argument_fits (Value i v) h = word_fits v h
argument_fits (Ack i) h = omega arith
argument_fits (Reset i) h = omega arith
argument_fits (Shelve i seconds) h = omega arith
argument_fits (Unshelve i) h = omega arith
argument_fits (Oos i on) h = switch_fits on
argument_fits (Design i on) h = switch_fits on
argument_fits (SetPriority i priority) h = omega arith
argument_fits (SetSetpoint i v) h = word_fits v h

pub action_again : (a : Action) → IsAction a → action_at (action_text a) ≡ Some a
action_again a h = text_again (kind_of a) (alarm_of a) (argument_of a) h.alarm (argument_fits a h.argument) ∙ meaning_again a h.argument

pub no_action_begins : (a b : Action) (x y : List ℕ) → IsAction a → IsAction b → action_text a ++ x ≡ action_text b ++ y → a ≡ b
no_action_begins a b x y p q e =
    let same : action_text a ≡ action_text b = ap (take 16) e in
    same_Some a b (sym (action_again a p) ∙ ap action_at same ∙ action_again b q)

-- ---- what is read is encoded so

-- an action is what a kind, an alarm and an argument encode
pub record Means (kind alarm argument : ℕ) (a : Action) : Type 0 where
  pub limits : IsAction a
  pub kind_is : kind ≡ kind_of a
  pub alarm_is : alarm ≡ alarm_of a
  pub argument_is : argument ≡ argument_of a

without_takes : (kind alarm argument : ℕ) (b a : Action) → Means kind alarm 0 b → without_argument argument b ≡ Some a → Means kind alarm argument a
without_takes kind alarm argument b a m e =
    elim (chosen (eqb argument 0) (Some b) None (Some a) e) [
      | inl (t, s) ↦ subst (λ (n : ℕ). Means kind alarm n a) (sym (eqb-true argument 0 t)) (subst (Means kind alarm 0) (same_Some b a s) m)
      | inr (t, s) ↦ absurd (none-some a s)
    ]

either_takes : (kind alarm argument : ℕ) (f : Bool → Action) (a : Action) → ((on : Bool) → Means kind alarm (switch_number on) (f on)) → either_way argument f ≡ Some a → Means kind alarm argument a
either_takes kind alarm argument f a m e =
    elim (chosen (eqb argument 0) (Some (f false)) (cond (eqb argument 1) (Some (f true)) None) (Some a) e) [
      | inl (t, s) ↦ subst (λ (n : ℕ). Means kind alarm n a) (sym (eqb-true argument 0 t)) (subst (Means kind alarm 0) (same_Some (f false) a s) (m false))
      | inr (t, s) ↦ elim (chosen (eqb argument 1) (Some (f true)) None (Some a) s) [
        | inl (u, r) ↦ subst (λ (n : ℕ). Means kind alarm n a) (sym (eqb-true argument 1 u)) (subst (Means kind alarm 1) (same_Some (f true) a r) (m true))
        | inr (u, r) ↦ absurd (none-some a r)
      ]
    ]

pub limited_takes : (z v : ℤ) → if_reading z ≡ Some v → (z ≡ v) × IsReading v
limited_takes z v e = grind (arith, ints)

reading_takes : (kind alarm word : ℕ) (f : ℤ → Action) (a : Action) → word < 2 ^ 64 → ((v : ℤ) → IsReading v → Means kind alarm (of_z w64 v) (f v)) → (o : Option ℤ) → reading_at word ≡ o → option_map f o ≡ Some a → Means kind alarm word a
reading_takes kind alarm word f a fits m None is e = absurd (none-some a e)
reading_takes kind alarm word f a fits m (Some v) is e =
    let t = limited_takes (to_z w64 word) v is in
    let word_is : of_z w64 v ≡ word = sym (ap (of_z w64) t.0) ∙ of_z-to_z w64 word fits in
    subst (Means kind alarm word) (same_Some (f v) a e) (subst (λ (n : ℕ). Means kind alarm n (f v)) word_is (m v t.1))

clock_takes : (alarm argument : ℕ) (a : Action) → cond (eqb alarm 0 && ltb argument (2 ^ 40)) (Some (Clock argument)) None ≡ Some a → Means 1 alarm argument a
clock_takes alarm argument a e =
    elim (chosen (eqb alarm 0 && ltb argument (2 ^ 40)) (Some (Clock argument)) None (Some a) e) [
      | inl (t, s) ↦
          let b = and_parts (eqb alarm 0) (ltb argument (2 ^ 40)) t in
          subst (Means 1 alarm argument) (same_Some (Clock argument) a s) (record { limits = record { alarm = omega arith; argument = ltb-true argument (2 ^ 40) b.1 }; kind_is = refl; alarm_is = eqb-true alarm 0 b.0; argument_is = refl })
      | inr (t, s) ↦ absurd (none-some a s)
    ]

small_takes : (kind alarm argument : ℕ) (f : ℕ → Action) (a : Action) → ((n : ℕ) → n < 2 ^ 32 → Means kind alarm n (f n)) → cond (ltb argument (2 ^ 32)) (Some (f argument)) None ≡ Some a → Means kind alarm argument a
small_takes kind alarm argument f a m e =
    elim (chosen (ltb argument (2 ^ 32)) (Some (f argument)) None (Some a) e) [
      | inl (t, s) ↦ subst (Means kind alarm argument) (same_Some (f argument) a s) (m argument (ltb-true argument (2 ^ 32) t))
      | inr (t, s) ↦ absurd (none-some a s)
    ]

-- the kinds above 8
later_takes : (kind alarm argument : ℕ) (a : Action) → alarm < 2 ^ 32 → argument < 2 ^ 64
    → cond (eqb kind 9) (cond (ltb argument (2 ^ 32)) (Some (SetPriority (record { 0 = alarm }) argument)) None) (cond (eqb kind 10) (option_map (SetSetpoint (record { 0 = alarm })) (reading_at argument)) None) ≡ Some a → Means kind alarm argument a
later_takes kind alarm argument a small fits e =
    let i : AlarmId = record { 0 = alarm } in
    let at : (k : ℕ) → eqb kind k ≡ true → Means k alarm argument a → Means kind alarm argument a = λ k t m. subst (λ (n : ℕ). Means n alarm argument a) (sym (eqb-true kind k t)) m in
    elim (chosen (eqb kind 9) _ _ (Some a) e) [
      | inl (t, s) ↦ at 9 t (small_takes 9 alarm argument (SetPriority i) a (λ n h. record { limits = record { alarm = small; argument = h }; kind_is = refl; alarm_is = refl; argument_is = refl }) s)
      | inr (t, e) ↦ elim (chosen (eqb kind 10) _ _ (Some a) e) [
        | inl (t, s) ↦ at 10 t (reading_takes 10 alarm argument (SetSetpoint i) a fits (λ v h. record { limits = record { alarm = small; argument = h }; kind_is = refl; alarm_is = refl; argument_is = refl }) (reading_at argument) refl s)
        | inr (t, e) ↦ absurd (none-some a e)
      ]
    ]

meaning_takes : (kind alarm argument : ℕ) (a : Action) → alarm < 2 ^ 32 → argument < 2 ^ 64 → action_meant kind alarm argument ≡ Some a → Means kind alarm argument a
meaning_takes kind alarm argument a small fits e =
    let i : AlarmId = record { 0 = alarm } in
    let at : (k : ℕ) → eqb kind k ≡ true → Means k alarm argument a → Means kind alarm argument a = λ k t m. subst (λ (n : ℕ). Means n alarm argument a) (sym (eqb-true kind k t)) m in
    elim (chosen (eqb kind 1) _ _ (Some a) e) [
      | inl (t, s) ↦ at 1 t (clock_takes alarm argument a s)
      | inr (t, e) ↦ elim (chosen (eqb kind 2) _ _ (Some a) e) [
        | inl (t, s) ↦ at 2 t (reading_takes 2 alarm argument (Value i) a fits (λ v h. record { limits = record { alarm = small; argument = h }; kind_is = refl; alarm_is = refl; argument_is = refl }) (reading_at argument) refl s)
        | inr (t, e) ↦ elim (chosen (eqb kind 3) _ _ (Some a) e) [
          | inl (t, s) ↦ at 3 t (without_takes 3 alarm argument (Ack i) a (record { limits = record { alarm = small; argument = tt }; kind_is = refl; alarm_is = refl; argument_is = refl }) s)
          | inr (t, e) ↦ elim (chosen (eqb kind 4) _ _ (Some a) e) [
            | inl (t, s) ↦ at 4 t (without_takes 4 alarm argument (Reset i) a (record { limits = record { alarm = small; argument = tt }; kind_is = refl; alarm_is = refl; argument_is = refl }) s)
            | inr (t, e) ↦ elim (chosen (eqb kind 5) _ _ (Some a) e) [
              | inl (t, s) ↦ at 5 t (small_takes 5 alarm argument (Shelve i) a (λ n h. record { limits = record { alarm = small; argument = h }; kind_is = refl; alarm_is = refl; argument_is = refl }) s)
              | inr (t, e) ↦ elim (chosen (eqb kind 6) _ _ (Some a) e) [
                | inl (t, s) ↦ at 6 t (without_takes 6 alarm argument (Unshelve i) a (record { limits = record { alarm = small; argument = tt }; kind_is = refl; alarm_is = refl; argument_is = refl }) s)
                | inr (t, e) ↦ elim (chosen (eqb kind 7) _ _ (Some a) e) [
                  | inl (t, s) ↦ at 7 t (either_takes 7 alarm argument (Oos i) a (λ on. record { limits = record { alarm = small; argument = tt }; kind_is = refl; alarm_is = refl; argument_is = refl }) s)
                  | inr (t, e) ↦ elim (chosen (eqb kind 8) _ _ (Some a) e) [
                    | inl (t, s) ↦ at 8 t (either_takes 8 alarm argument (Design i) a (λ on. record { limits = record { alarm = small; argument = tt }; kind_is = refl; alarm_is = refl; argument_is = refl }) s)
                    | inr (t, e) ↦ later_takes kind alarm argument a small fits e
                  ]
                ]
              ]
            ]
          ]
        ]
      ]
    ]

both_words : (a b x y : List ℕ) → a ≡ b → x ≡ y → a ++ x ≡ b ++ y
both_words a b x y e f = ap (λ (t : List ℕ). t ++ x) e ∙ ap (λ (t : List ℕ). b ++ t) f

text_takes : (kind p q r s : ℕ) (rest : List ℕ) (a : Action) → IsBytes (p ∷ q ∷ r ∷ s ∷ rest)
    → cond (eqb (length rest) 8) (action_meant kind (from_be_bytes w32 (p ∷ q ∷ r ∷ s ∷ [])) (from_be_bytes w64 rest)) None ≡ Some a
    → IsAction a × (kind ∷ 0 ∷ 0 ∷ 0 ∷ p ∷ q ∷ r ∷ s ∷ rest ≡ action_text a)
text_takes kind p q r s rest a fits e =
    let alarm : ℕ = from_be_bytes w32 (p ∷ q ∷ r ∷ s ∷ []) in
    let argument : ℕ = from_be_bytes w64 rest in
    elim (chosen (eqb (length rest) 8) _ _ (Some a) e) [
      | inl (t, meant) ↦
          let len : length rest ≡ 8 = eqb-true (length rest) 8 t in
          let front : IsBytes (p ∷ q ∷ r ∷ s ∷ []) = IsBytes-take 4 (p ∷ q ∷ r ∷ s ∷ rest) fits in
          let back : IsBytes rest = IsBytes-drop 4 (p ∷ q ∷ r ∷ s ∷ rest) fits in
          let small : alarm < 2 ^ 32 = omega (arith, front 0, front 1, front 2, front 3) in
          let large : argument < 2 ^ 64 = omega (arith, back 0, back 1, back 2, back 3, back 4, back 5, back 6, back 7) in
          let m = meaning_takes kind alarm argument a small large meant in
          let words : to_be_bytes w32 alarm ++ to_be_bytes w64 argument ≡ p ∷ q ∷ r ∷ s ∷ rest = both_words (to_be_bytes w32 alarm) (p ∷ q ∷ r ∷ s ∷ []) (to_be_bytes w64 argument) rest (be_bytes_4 (p ∷ q ∷ r ∷ s ∷ []) alarm refl front refl) (be_bytes_8 rest argument len back refl) in
          let same : fields_text kind 0 alarm argument ≡ action_text a = rw (m.kind_is, m.alarm_is, m.argument_is) refl in
          (m.limits, sym (ap (λ (w : List ℕ). kind ∷ 0 ∷ 0 ∷ 0 ∷ w) words) ∙ same)
      | inr (t, none) ↦ absurd (none-some a none)
    ]

pub action_takes : (bytes : List ℕ) (a : Action) → IsBytes bytes → action_at bytes ≡ Some a → IsAction a × (bytes ≡ action_text a)
action_takes (kind ∷ zero ∷ zero ∷ zero ∷ p ∷ q ∷ r ∷ s ∷ rest) a fits e = text_takes kind p q r s rest a (IsBytes-drop 4 (kind ∷ 0 ∷ 0 ∷ 0 ∷ p ∷ q ∷ r ∷ s ∷ rest) fits) e
action_takes _ a fits e = absurd (none-some a e)

-- ---- in a version

borne_takes : (version : Version) (o : Option Action) (a : Action) → borne version o ≡ Some a → (o ≡ Some a) × IsBorne version a
borne_takes version None a e = absurd (none-some a e)
borne_takes version (Some b) a e =
    elim (chosen (bears version b) (Some b) None (Some a) e) [
      | inl (t, s) ↦ (s, subst (IsBorne version) (same_Some b a s) t)
      | inr (t, s) ↦ absurd (none-some a s)
    ]

-- what is read in a version is encoded so, and the version has it
pub borne_action_takes : (version : Version) (bytes : List ℕ) (a : Action) → IsBytes bytes → action_in version bytes ≡ Some a → IsAction a × (bytes ≡ action_text a) × IsBorne version a
borne_action_takes version bytes a fits e =
    let b = borne_takes version (action_at bytes) a e in
    let t = action_takes bytes a fits b.0 in
    (t.0, t.1, b.1)

pub borne_action_again : (version : Version) (a : Action) → IsAction a → IsBorne version a → action_in version (action_text a) ≡ Some a
borne_action_again version a h b = ap (borne version) (action_again a h) ∙ ap (λ (t : Bool). cond t (Some a) None) b

pub found_if_ok : (version : Version) (bytes : List ℕ) (o : Option Action) (d : Damage) → IsBytes bytes → o ≡ action_in version bytes → IfOk (ok_or o d) (λ a. IsAction a × (bytes ≡ action_text a) × IsBorne version a)
found_if_ok version bytes None d fits e = tt
found_if_ok version bytes (Some a) d fits e = borne_action_takes version bytes a fits (sym e)

-- the parts of a text, written one after the other
pub text_parts : (kind asker : ℕ) (p q : List ℕ) (k n m alarm argument : ℕ) → kind ≡ k → p ≡ to_be_bytes w32 n → n ≡ alarm → q ≡ to_be_bytes w64 m → m ≡ argument → kind ∷ asker ∷ 0 ∷ 0 ∷ (p ++ q) ≡ fields_text k asker alarm argument
text_parts kind asker p q k n m alarm argument a b c d e =
    ap (λ (x : ℕ). x ∷ asker ∷ 0 ∷ 0 ∷ (p ++ q)) a
    ∙ ap (λ (x : List ℕ). k ∷ asker ∷ 0 ∷ 0 ∷ (x ++ q)) (b ∙ ap (to_be_bytes w32) c)
    ∙ ap (λ (x : List ℕ). k ∷ asker ∷ 0 ∷ 0 ∷ (to_be_bytes w32 alarm ++ x)) (d ∙ ap (to_be_bytes w64) e)

-- ---- with who asked

-- an action and who asked, as one value
abbrev pair : ℕ → Action → Asked
pair asker a = record { asker = asker; action = a }

asked_parts : (asker : ℕ) (o : Option Action) (x : Asked) → asked_by asker o ≡ Some x → (a : Action) × (o ≡ Some a) × (pair asker a ≡ x)
asked_parts asker None x e = absurd (none-some x e)
asked_parts asker (Some a) x e = (a, refl, same_Some (pair asker a) x e)

other_byte : (kind asker n : ℕ) (rest : List ℕ) → n < 256 → IsBytes (kind ∷ asker ∷ rest) → IsBytes (kind ∷ n ∷ rest)
other_byte kind asker n rest lt fits zero = fits 0
other_byte kind asker n rest lt fits (suc zero) = lt
other_byte kind asker n rest lt fits (suc (suc i)) = fits (suc (suc i))

-- the text of an action, as it is with another byte of who asked
text_with : (kind asker : ℕ) (rest : List ℕ) (a : Action) → kind ∷ 0 ∷ rest ≡ action_text a → kind ∷ asker ∷ rest ≡ text_by asker a
text_with kind asker rest a e = ap (λ (l : List ℕ). get_or l 0 0 ∷ asker ∷ drop 2 l) e

said_text : (version : Version) (x : Asked) → IsSaid version x → text_by x.asker x.action ≡ asked_text version x
said_text V01 x said = ap (λ (n : ℕ). text_by n x.action) (eqb-true x.asker 0 said)
said_text V02 x said = ap (λ (n : ℕ). text_by n x.action) (eqb-true x.asker 0 said)
said_text V03 x said = refl

-- what is read in a version with who asked is encoded so
pub asked_takes : (version : Version) (bytes : List ℕ) (x : Asked) → IsBytes bytes → asked_at version bytes ≡ Some x → IsAction x.action × (bytes ≡ asked_text version x) × IsBorne version x.action × IsSaid version x
asked_takes version [] x fits e = absurd (none-some x e)
asked_takes version (kind ∷ []) x fits e = absurd (none-some x e)
asked_takes version (kind ∷ asker ∷ rest) x fits e =
    elim (chosen (is_asker version asker) (asked_by asker (action_in version (kind ∷ 0 ∷ rest))) None (Some x) e) [
      | inl (t, s) ↦
          let p = asked_parts asker (action_in version (kind ∷ 0 ∷ rest)) x s in
          let b = borne_action_takes version (kind ∷ 0 ∷ rest) p.0 (other_byte kind asker 0 rest (omega arith) fits) p.1 in
          let said : IsSaid version x = subst (IsSaid version) p.2 t in
          let whole : kind ∷ asker ∷ rest ≡ text_by x.asker x.action = text_with kind asker rest p.0 b.1 ∙ ap (λ (y : Asked). text_by y.asker y.action) p.2 in
          (subst (λ (y : Asked). IsAction y.action) p.2 b.0, whole ∙ said_text version x said, subst (λ (y : Asked). IsBorne version y.action) p.2 b.2, said)
      | inr (t, s) ↦ absurd (none-some x s)
    ]

pub asked_again : (version : Version) (x : Asked) → IsAction x.action → IsBorne version x.action → IsSaid version x → asked_at version (asked_text version x) ≡ Some x
asked_again version x h b said =
    ap (asked_at version) (sym (said_text version x said))
    ∙ ap (λ (t : Bool). cond t (asked_by x.asker (action_in version (action_text x.action))) None) said
    ∙ ap (asked_by x.asker) (borne_action_again version x.action h b)

pub asked_long : (version : Version) (x : Asked) → length (asked_text version x) ≡ 16
asked_long V01 x = refl
asked_long V02 x = refl
asked_long V03 x = refl
