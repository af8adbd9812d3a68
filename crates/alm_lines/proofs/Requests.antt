-- Requests and their texts.
use Rattle.std.proofs.Common.{◌≡◌, ◌<◌, ◌≤◌, ◌+◌, ◌^◌, ℕ, List, [], ◌∷◌, ◌++◌, Option, Some, None, Bool, true, false, refl, arith, nat_lt, ap, ◌∙◌, sym, length, inl, inr, add-one, suc, zero}
use Rattle.std.specs.Prelude.{if◌then◌else◌, decimal, codes, option_map, option_and_then, unwrap_or, ◌==◌, ℤ, pos, negsuc}
use Rattle.std.proofs.lemmas.Bool.{cases_Bool}
use Rattle.std.proofs.lemmas.Option.{none-some, same_Some}
use Rattle.std.proofs.lemmas.Fmt.{decimal_is_IsNumeral}
use Rattle.std.proofs.lemmas.Str.Parse.{digit_from_value}
use Rattle.std.specs.Str.Parse.{AllDigits}
use Rattle.std.proofs.Math.Facts.{leb_yes}
use Rattle.alm_types.specs.declared.alarm_id.AlarmId.{AlarmId}
use Rattle.alm_types.specs.declared.action.Action.{Action}
use Rattle.alm_types.specs.declared.action.Action.TheVariants.{Clock, Value, Ack, Reset, Shelve, Unshelve, Oos, Design, SetPriority, SetSetpoint}
use Rattle.alm_types.specs.declared.want.Want.{Want}
use Rattle.alm_types.specs.declared.want.Want.TheVariants.{Do, AckSeen}
use Rattle.alm_types.specs.Sizes.{most_actions}
use Rattle.alm_types.specs.declared.refusal.Refusal.TheVariants.{BadLine}
use Rattle.alm_types.specs.declared.query.Query.{Query}
use Rattle.alm_types.specs.declared.query.Query.TheVariants.{State, Priority, Area, Wheel, Flood, Stale, Chatter, Plant, Attributes, Row}
use Rattle.alm_lines.specs.declared.ask.Ask.{Ask}
use Rattle.alm_lines.specs.declared.ask.Ask.TheVariants.{Act, Look, Recall, Bad}
use Rattle.alm_lines.specs.Line.{number, word, alarm, moment_in, count_in, stamp_number, negative, reading_from, same, switch, cut_at_space, of_none, of_one, of_letter, of_two, of_fields, of_rest, ask_in, line_under, line_of}
use Rattle.alm_types.specs.Actions.{IsAction}
use Rattle.alm_types.specs.Readings.{IsReading}
use Rattle.alm_lines.specs.Texts.{value_text, switch_text, with_one, with_two, ask_text, action_words, want_words, recall_text, query_text, request_text, IsAskInRange, IsWantInRange, IsQueryInRange, IsRecallInRange, IsAsking}
use Rattle.alm_lines.proofs.Numerals.{number-decimal, decimal-number}
use Rattle.alm_lines.proofs.Lengths.{request-length}
use Rattle.alm_lines.proofs.Cutting.{joined, cut-joined, cut-spaced, cut-alone, spaceless-decimal, is_spaceless, same-is}

-- what may be asked, put under the word for nothing
abbrev asks : Option Ask → Ask
asks o = unwrap_or o (Bad BadLine)

-- if it asks something, this is its text
abbrev Taken : List ℕ → Option Ask → Type 0
Taken text o = IsAsking (asks o) → text ≡ ask_text (asks o)

-- a choice by a test
pick : (t : Bool) (a b : Option Ask) (text : List ℕ) → (t ≡ true → Taken text a) → (t ≡ false → Taken text b) → Taken text (if t then a else b)
pick true a b text f g = f refl
pick false a b text f g = g refl

nothing : (text : List ℕ) → Taken text None
nothing text h = absurd h

small : 2 ^ 32 ≤ 2 ^ 64
small = omega arith

-- one field: a number below a limit
one-number : (limit : ℕ) (f : ℕ → Ask) (w name first : List ℕ) (o : Option ℕ) → number limit first ≡ o → limit ≤ 2 ^ 64 → ((n : ℕ) → ask_text (f n) ≡ with_one w (decimal n))
    → same name w ≡ true → Taken (with_one name first) (option_map f o)
one-number limit f w name first None e le text hit h = absurd h
one-number limit f w name first (Some n) e le text hit h =
    let named = same-is name w hit in
    let field = decimal-number limit first n le e in
    rw (named, field) (sym (text n))

-- and an alarm
one-alarm : (f : AlarmId → Ask) (w name first : List ℕ) (o : Option ℕ) → word first ≡ o → ((i : AlarmId) → ask_text (f i) ≡ with_one w (decimal i.0))
    → same name w ≡ true → Taken (with_one name first) (option_map f (option_map (λ (n : ℕ). record { 0 = n }) o))
one-alarm f w name first None e text hit h = absurd h
one-alarm f w name first (Some n) e text hit h =
    let named = same-is name w hit in
    let field = decimal-number (2 ^ 32) first n small e in
    rw (named, field) (sym (text (record { 0 = n })))

taken-one : (name first : List ℕ) → Taken (with_one name first) (of_one name first)
taken-one name first =
    let text = with_one name first in
    pick (same name (codes "ACK")) _ _ text (one-alarm (λ i. Act (Do (Ack i))) (codes "ACK") name first (word first) refl (λ i. refl))
    (λ _. pick (same name (codes "RESET")) _ _ text (one-alarm (λ i. Act (Do (Reset i))) (codes "RESET") name first (word first) refl (λ i. refl))
    (λ _. pick (same name (codes "UNSHELVE")) _ _ text (one-alarm (λ i. Act (Do (Unshelve i))) (codes "UNSHELVE") name first (word first) refl (λ i. refl))
    (λ _. pick (same name (codes "CLOCK")) _ _ text (one-number (2 ^ 40) (λ t. Act (Do (Clock t))) (codes "CLOCK") name first (moment_in first) refl (omega arith) (λ n. refl))
    (λ _. pick (same name (codes "STATE")) _ _ text (one-alarm (λ i. Look (State i)) (codes "STATE") name first (word first) refl (λ i. refl))
    (λ _. pick (same name (codes "FLOOD")) _ _ text (one-number (2 ^ 32) (λ n. Look (Flood n)) (codes "FLOOD") name first (word first) refl small (λ n. refl))
    (λ _. pick (same name (codes "ATTR")) _ _ text (one-alarm (λ i. Look (Attributes i)) (codes "ATTR") name first (word first) refl (λ i. refl))
    (λ _. pick (same name (codes "ROW")) _ _ text (one-alarm (λ i. Look (Row i)) (codes "ROW") name first (word first) refl (λ i. refl))
    (λ _. pick (same name (codes "SINCE")) _ _ text (one-number (2 ^ 48 + 1) (λ n. Recall (Some n)) (codes "SINCE") name first (count_in first) refl (omega arith) (λ n. refl))
    (λ _. nothing text)))))))))

-- an alarm and a second field of some kind
two-alarm : {A : Type 0} (f : AlarmId → A → Ask) (w name first second : List ℕ) (spell : A → List ℕ) (o : Option ℕ) (p : Option A)
    → word first ≡ o → ((a : A) → p ≡ Some a → second ≡ spell a) → ((i : AlarmId) (a : A) → ask_text (f i a) ≡ with_two w (decimal i.0) (spell a))
    → same name w ≡ true → Taken (with_two name first second) (option_and_then (λ (i : AlarmId). option_map (f i) p) (option_map (λ (n : ℕ). record { 0 = n }) o))
two-alarm f w name first second spell None p e q text hit h = absurd h
two-alarm f w name first second spell (Some n) None e q text hit h = absurd h
two-alarm f w name first second spell (Some n) (Some a) e q text hit h =
    let named = same-is name w hit in
    let field = decimal-number (2 ^ 32) first n small e in
    let behind = q a refl in
    rw (named, field, behind) (sym (text (record { 0 = n }) a))

-- the text of a value, and of a switch
negative-text : (ds : List ℕ) (o : Option ℕ) (v : ℤ) → number 1000000000001 ds ≡ o → negative o ≡ Some v → 45 ∷ ds ≡ value_text v
negative-text ds None v e h = absurd (none-some v h)
negative-text ds (Some zero) v e h = absurd (none-some v h)
negative-text ds (Some (suc n)) v e h =
    let some : (suc n == 0) ≡ false = grind arith in
    let same : negsuc n ≡ v = same_Some (negsuc n) v (rw some at h) in
    let field = decimal-number 1000000000001 ds (suc n) (omega arith) e in
    rw (← same, field, add-one) refl

positive-text : (ds : List ℕ) (o : Option ℕ) (v : ℤ) → number 1000000000001 ds ≡ o → option_map pos o ≡ Some v → ds ≡ value_text v
positive-text ds None v e h = absurd (none-some v h)
positive-text ds (Some n) v e h =
    let same : pos n ≡ v = same_Some (pos n) v h in
    rw (← same) (decimal-number 1000000000001 ds n (omega arith) e)

reading-text : (ds : List ℕ) (v : ℤ) → reading_from ds ≡ Some v → ds ≡ value_text v
reading-text [] v e = absurd (none-some v e)
reading-text (d ∷ ds) v e =
    elim (cases_Bool (d == 45)) [
      | inl hit ↦
          (let minus : d ≡ 45 = grind (arith, hit) in
          rw minus (negative-text ds (number 1000000000001 ds) v refl (rw hit at e)))
      | inr miss ↦ positive-text (d ∷ ds) (number 1000000000001 (d ∷ ds)) v refl (rw miss at e)
    ]

switch-text : (field : List ℕ) (on : Bool) → switch field ≡ Some on → field ≡ switch_text on
switch-text field on e =
    elim (cases_Bool (same field (codes "ON"))) [
      | inl hit ↦ (let is = same_Some true on (rw hit at e) in rw (← is) (same-is field (codes "ON") hit))
      | inr miss ↦
          (let e = rw miss at e in
          elim (cases_Bool (same field (codes "OFF"))) [
            | inl hit ↦ (let is = same_Some false on (rw hit at e) in rw (← is) (same-is field (codes "OFF") hit))
            | inr miss ↦ absurd (none-some on (rw miss at e))
          ])
    ]

word-text : (field : List ℕ) (n : ℕ) → word field ≡ Some n → field ≡ decimal n
word-text field n e = decimal-number (2 ^ 32) field n small e

stamp-text : (field : List ℕ) (n : ℕ) → stamp_number field ≡ Some n → field ≡ decimal n
stamp-text field n e = decimal-number (2 ^ 63) field n (omega arith) e

-- a list and its letter
letter-text : (first second name : List ℕ) (n : ℕ) → second ≡ decimal n → same name (codes "LIST") ≡ true → Taken (with_two name first second) (of_letter first n)
letter-text first second name n field hit =
    let named = same-is name (codes "LIST") hit in
    let text = with_two name first second in
    pick (same first (codes "P")) _ _ text (λ is h. let letter = same-is first (codes "P") is in rw (named, letter, field) refl)
    (λ _. pick (same first (codes "A")) _ _ text (λ is h. let letter = same-is first (codes "A") is in rw (named, letter, field) refl)
    (λ _. pick (same first (codes "S")) _ _ text (λ is h. let letter = same-is first (codes "S") is in rw (named, letter, field) refl)
    (λ _. nothing text)))

list-text : (name first second : List ℕ) (o : Option ℕ) → word second ≡ o → same name (codes "LIST") ≡ true → Taken (with_two name first second) (option_and_then (of_letter first) o)
list-text name first second None e hit h = absurd h
list-text name first second (Some n) e hit h = letter-text first second name n (word-text second n e) hit h

taken-two : (name first second : List ℕ) → Taken (with_two name first second) (of_two name first second)
taken-two name first second =
    let text = with_two name first second in
    pick (same name (codes "VAL")) _ _ text (two-alarm (λ i v. Act (Do (Value i v))) (codes "VAL") name first second value_text (word first) (reading_from second) refl (reading-text second) (λ i v. refl))
    (λ _. pick (same name (codes "SHELVE")) _ _ text (two-alarm (λ i s. Act (Do (Shelve i s))) (codes "SHELVE") name first second decimal (word first) (word second) refl (word-text second) (λ i s. refl))
    (λ _. pick (same name (codes "OOS")) _ _ text (two-alarm (λ i on. Act (Do (Oos i on))) (codes "OOS") name first second switch_text (word first) (switch second) refl (switch-text second) (λ i on. refl))
    (λ _. pick (same name (codes "DESIGN")) _ _ text (two-alarm (λ i on. Act (Do (Design i on))) (codes "DESIGN") name first second switch_text (word first) (switch second) refl (switch-text second) (λ i on. refl))
    (λ _. pick (same name (codes "PRIO")) _ _ text (two-alarm (λ i n. Act (Do (SetPriority i n))) (codes "PRIO") name first second decimal (word first) (word second) refl (word-text second) (λ i n. refl))
    (λ _. pick (same name (codes "SETP")) _ _ text (two-alarm (λ i v. Act (Do (SetSetpoint i v))) (codes "SETP") name first second value_text (word first) (reading_from second) refl (reading-text second) (λ i v. refl))
    (λ _. pick (same name (codes "ACK")) _ _ text (two-alarm (λ i s. Act (AckSeen i s)) (codes "ACK") name first second decimal (word first) (stamp_number second) refl (stamp-text second) (λ i s. refl))
    (λ _. pick (same name (codes "LIST")) _ _ text (list-text name first second (word second) refl)
    (λ _. nothing text))))))))

taken-none : (name : List ℕ) → Taken name (of_none name)
taken-none name =
    pick (same name (codes "STALE")) _ _ name (λ is h. same-is name (codes "STALE") is)
    (λ _. pick (same name (codes "CHATTER")) _ _ name (λ is h. same-is name (codes "CHATTER") is)
    (λ _. pick (same name (codes "PLANT")) _ _ name (λ is h. same-is name (codes "PLANT") is)
    (λ _. pick (same name (codes "SINCE")) _ _ name (λ is h. same-is name (codes "SINCE") is)
    (λ _. nothing name))))

taken-fields : (name first : List ℕ) (second : Option (List ℕ)) → Taken (name ++ 32 ∷ joined first second) (of_fields name (first, second))
taken-fields name first None = taken-one name first
taken-fields name first (Some second) = taken-two name first second

taken-rest : (name : List ℕ) (fields : Option (List ℕ)) → Taken (joined name fields) (of_rest (name, fields))
taken-rest name None h = taken-none name h
taken-rest name (Some fields) h =
    ap (λ (f : List ℕ). name ++ 32 ∷ f) (cut-joined fields) ∙ taken-fields name (cut_at_space fields).0 (cut_at_space fields).1 h

taken-asked : (rest : List ℕ) → Taken rest (ask_in (Some rest))
taken-asked rest h = cut-joined rest ∙ taken-rest (cut_at_space rest).0 (cut_at_space rest).1 h

taken-under : (first : List ℕ) (id : Option ℕ) (rest : Option (List ℕ)) → word first ≡ id → IsAsking (line_under id rest).ask
    → joined first rest ≡ request_text (line_under id rest).id (line_under id rest).ask
taken-under first None rest e h = absurd h
taken-under first (Some id) None e h = absurd h
taken-under first (Some id) (Some rest) e h =
    ap (λ (f : List ℕ). f ++ 32 ∷ rest) (word-text first id e) ∙ ap (λ (r : List ℕ). decimal id ++ 32 ∷ r) (taken-asked rest h)

pub taken : (bytes : List ℕ) → IsAsking (line_of bytes).ask → bytes ≡ request_text (line_of bytes).id (line_of bytes).ask
taken bytes h =
    elim (cases_Bool (nat_lt 127 (length bytes))) [
      | inl hit ↦ absurd (rw hit at h)
      | inr miss ↦ rw miss (cut-joined bytes ∙ taken-under (cut_at_space bytes).0 (word (cut_at_space bytes).0) (cut_at_space bytes).1 refl (rw miss at h))
    ]

-- an alarm and a number are read back
alarm-read : (i : AlarmId) → i.0 < 2 ^ 32 → alarm (decimal i.0) ≡ Some i
alarm-read i below = ap (option_map (λ (n : ℕ). record { 0 = n })) (number-decimal (2 ^ 32) i.0 below (omega (arith, below)))

word-read : (n : ℕ) → n < 2 ^ 32 → word (decimal n) ≡ Some n
word-read n below = number-decimal (2 ^ 32) n below (omega (arith, below))

moment-read : (t : ℕ) → t < 2 ^ 40 → moment_in (decimal t) ≡ Some t
moment-read t below = number-decimal (2 ^ 40) t below (omega (arith, below))

stamp-read : (s : ℕ) → s < 2 ^ 63 → stamp_number (decimal s) ≡ Some s
stamp-read s below = number-decimal (2 ^ 63) s below (omega (arith, below))

count-read : (n : ℕ) → n ≤ most_actions → count_in (decimal n) ≡ Some n
count-read n within = number-decimal (2 ^ 48 + 1) n (omega (arith, within)) (omega (arith, within))

switch-read : (on : Bool) → switch (switch_text on) ≡ Some on
switch-read true = refl
switch-read false = refl

-- digits don't begin with minus
digits-read : (ds : List ℕ) (n : ℕ) → AllDigits 10 ds → 0 < length ds → number 1000000000001 ds ≡ Some n → reading_from ds ≡ Some (pos n)
digits-read [] n d some e = absurd (omega arith)
digits-read (c ∷ cs) n d some e =
    let k = digit_from_value c d.0 in
    let no : (c == 45) ≡ false = grind (arith, k) in
    rw (no, e) refl

reading-read : (v : ℤ) → IsReading v → reading_from (value_text v) ≡ Some v
reading-read (pos n) h =
    let within : n ≤ 1000000000000 = leb_yes h.1.le in
    let small : n < 2 ^ 64 = omega arith in
    let k = decimal_is_IsNumeral n small in
    digits-read (decimal n) n k.0.1 k.0.0 (number-decimal 1000000000001 n (omega arith) small)
reading-read (negsuc n) h =
    let within : n ≤ 999999999999 = leb_yes h.0.le in
    let below : n + 1 < 1000000000001 = omega arith in
    let some : (suc n == 0) ≡ false = grind arith in
    rw (number-decimal 1000000000001 (n + 1) below (omega (arith, below)), add-one, some) refl

action-read : (action : Action) → IsAction action → of_rest (cut_at_space (action_words action)) ≡ Some (Act (Do action))
action-read (Clock t) h = rw (cut-spaced (codes "CLOCK") (decimal t) refl, cut-alone (decimal t) (spaceless-decimal t (omega (arith, h.argument))), moment-read t h.argument) refl
action-read (Value i v) h =
    rw (cut-spaced (codes "VAL") (decimal i.0 ++ 32 ∷ value_text v) refl, cut-spaced (decimal i.0) (value_text v) (spaceless-decimal i.0 (omega (arith, h.alarm))), alarm-read i h.alarm, reading-read v h.argument) refl
action-read (Ack i) h = rw (cut-spaced (codes "ACK") (decimal i.0) refl, cut-alone (decimal i.0) (spaceless-decimal i.0 (omega (arith, h.alarm))), alarm-read i h.alarm) refl
action-read (Reset i) h = rw (cut-spaced (codes "RESET") (decimal i.0) refl, cut-alone (decimal i.0) (spaceless-decimal i.0 (omega (arith, h.alarm))), alarm-read i h.alarm) refl
action-read (Shelve i s) h =
    rw (cut-spaced (codes "SHELVE") (decimal i.0 ++ 32 ∷ decimal s) refl, cut-spaced (decimal i.0) (decimal s) (spaceless-decimal i.0 (omega (arith, h.alarm))), alarm-read i h.alarm, word-read s h.argument) refl
action-read (Unshelve i) h = rw (cut-spaced (codes "UNSHELVE") (decimal i.0) refl, cut-alone (decimal i.0) (spaceless-decimal i.0 (omega (arith, h.alarm))), alarm-read i h.alarm) refl
action-read (Oos i on) h =
    rw (cut-spaced (codes "OOS") (decimal i.0 ++ 32 ∷ switch_text on) refl, cut-spaced (decimal i.0) (switch_text on) (spaceless-decimal i.0 (omega (arith, h.alarm))), alarm-read i h.alarm, switch-read on) refl
action-read (Design i on) h =
    rw (cut-spaced (codes "DESIGN") (decimal i.0 ++ 32 ∷ switch_text on) refl, cut-spaced (decimal i.0) (switch_text on) (spaceless-decimal i.0 (omega (arith, h.alarm))), alarm-read i h.alarm, switch-read on) refl
action-read (SetPriority i n) h =
    rw (cut-spaced (codes "PRIO") (decimal i.0 ++ 32 ∷ decimal n) refl, cut-spaced (decimal i.0) (decimal n) (spaceless-decimal i.0 (omega (arith, h.alarm))), alarm-read i h.alarm, word-read n h.argument) refl
action-read (SetSetpoint i v) h =
    rw (cut-spaced (codes "SETP") (decimal i.0 ++ 32 ∷ value_text v) refl, cut-spaced (decimal i.0) (value_text v) (spaceless-decimal i.0 (omega (arith, h.alarm))), alarm-read i h.alarm, reading-read v h.argument) refl

want-read : (want : Want) → IsWantInRange want → of_rest (cut_at_space (want_words want)) ≡ Some (Act want)
want-read (Do action) h = action-read action h
want-read (AckSeen i s) h =
    rw (cut-spaced (codes "ACK") (decimal i.0 ++ 32 ∷ decimal s) refl, cut-spaced (decimal i.0) (decimal s) (spaceless-decimal i.0 (omega (arith, h.0))), alarm-read i h.0, stamp-read s h.1) refl

recall-read : (after : Option ℕ) → IsRecallInRange after → of_rest (cut_at_space (recall_text after)) ≡ Some (Recall after)
recall-read None h = refl
recall-read (Some n) h = rw (cut-spaced (codes "SINCE") (decimal n) refl, cut-alone (decimal n) (spaceless-decimal n (omega (arith, h))), count-read n h) refl

list-read : (letter : List ℕ) (n : ℕ) → is_spaceless letter ≡ true → n < 2 ^ 32 → of_rest (cut_at_space (with_two (codes "LIST") letter (decimal n))) ≡ of_letter letter n
list-read letter n e below =
    rw (cut-spaced (codes "LIST") (letter ++ 32 ∷ decimal n) refl, cut-spaced letter (decimal n) e, word-read n below) refl

query-read : (query : Query) → IsQueryInRange query → of_rest (cut_at_space (query_text query)) ≡ Some (Look query)
query-read (State i) h = rw (cut-spaced (codes "STATE") (decimal i.0) refl, cut-alone (decimal i.0) (spaceless-decimal i.0 (omega (arith, h))), alarm-read i h) refl
query-read (Priority n) h = list-read (codes "P") n refl h
query-read (Area n) h = list-read (codes "A") n refl h
query-read (Wheel n) h = list-read (codes "S") n refl h
query-read (Flood n) h = rw (cut-spaced (codes "FLOOD") (decimal n) refl, cut-alone (decimal n) (spaceless-decimal n (omega (arith, h))), word-read n h) refl
query-read Stale h = refl
query-read Chatter h = refl
query-read Plant h = refl
query-read (Attributes i) h = rw (cut-spaced (codes "ATTR") (decimal i.0) refl, cut-alone (decimal i.0) (spaceless-decimal i.0 (omega (arith, h))), alarm-read i h) refl
query-read (Row i) h = rw (cut-spaced (codes "ROW") (decimal i.0) refl, cut-alone (decimal i.0) (spaceless-decimal i.0 (omega (arith, h))), alarm-read i h) refl

ask-read : (ask : Ask) → IsAskInRange ask → ask_in (Some (ask_text ask)) ≡ Some ask
ask-read (Act want) h = want-read want h
ask-read (Look query) h = query-read query h
ask-read (Recall after) h = recall-read after h
ask-read (Bad refusal) h = absurd h

pub request-read : (id : ℕ) (ask : Ask) → id < 2 ^ 32 → IsAskInRange ask → line_of (request_text id ask) ≡ record { id = id; ask = ask }
request-read id ask below range =
    let fits = request-length id ask below range in
    let short : nat_lt 127 (length (request_text id ask)) ≡ false = grind (arith, fits) in
    rw (short, cut-spaced (decimal id) (ask_text ask) (spaceless-decimal id (omega (arith, below))), word-read id below)
    (ap (λ (o : Option Ask). record { id = id; ask = asks o }) (ask-read ask range))
