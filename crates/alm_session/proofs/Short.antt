-- No reply to a query is longer than the room for replies.
use Rattle.std.proofs.Common.{◌≡◌, inl, inr, ℕ, ◌+◌, ◌*◌, ◌^◌, ◌<◌, ◌≤◌, Bool, true, false, List, [], ◌∷◌, ◌++◌, length, refl, sym, ◌∙◌, arith, Option, Some, None, subst, ℤ, pos, negsuc}
use Rattle.std.specs.Prelude.{filter, sum, sum_by, slice_get, map, take, codes, decimal, Ok, Err, if◌then◌else◌, ◌==◌}
use Rattle.std.specs.List.{AllByRecursion, range_with_len}
use Rattle.std.proofs.lemmas.Fmt.{length-decimal-le, length_signed_le}
use Rattle.std.proofs.Math.Facts.{leb_yes}
use Rattle.std.specs.Fmt.{signed_decimal}
use Rattle.std.proofs.lemmas.List.{length-append}
use Rattle.std.proofs.lemmas.List.Sums.{get_or-le-sum_by, length-filter, count_by-le-length}
use Rattle.std.proofs.lemmas.List.FromFn.{length-range_with_len}
use Rattle.std.proofs.lemmas.Option.{none-some, slice_get_within, get_or_from_slice_get, slice_get_cases}
use Rattle.alm_types.specs.declared.query.Query.{Query}
use Rattle.alm_types.specs.declared.query.Query.TheVariants as query
use Rattle.alm_types.specs.declared.refusal.Refusal.{Refusal}
use Rattle.alm_types.specs.declared.refusal.Refusal.TheVariants as refusal
use Rattle.alm_types.specs.Refusals.{number_of}
use Rattle.alm_types.specs.declared.kind.Kind.{Kind}
use Rattle.alm_types.specs.declared.kind.Kind.TheVariants as kind
use Rattle.alm_types.proofs.Padding.{length-tag, length-text}
use Rattle.alm_types.specs.Attributes.{deadband_limit}
use Rattle.alm_types.specs.Readings.{IsReading}
use Rattle.alm_types.specs.Reports.{Report, flood, alarms, plant, attributes, row}
use Rattle.alm_types.specs.declared.shown.Shown.{Shown}
use Rattle.alm_types.specs.declared.shown.Shown.TheVariants as shown
use Rattle.alm_lists.proofs.Each.{all-filter, all-in_order, all-range, every}
use Rattle.alm_model.specs.Plant.{Condensed}
use Rattle.alm_model.specs.Look.{state_report, flood_report, attributes_report, row_report, row_of}
use Rattle.alm_model.specs.Rules.{KeepsRules, IsAlarm, IsFalling}
use Rattle.alm_model.proofs.Listed.{listed-few}
use Rattle.alm_state.specs.Rows.{State}
use Rattle.alm_state.specs.Suits.{IsAhead}
use Rattle.alm_state.specs.Showing.{report_of, shown_of, flags_of}
use Rattle.alm_types.specs.declared.attr.Attr.{Attr}
use Rattle.alm_desk.specs.Answers.{look_reply, report_reply}
use Rattle.alm_desk.specs.declared.hindrance.Hindrance.TheVariants.{Nothing}
use Rattle.alm_model.specs.Lists as lists
use Rattle.alm_model.specs.declared.list.List.{List as Choice}
use Rattle.alm_model.specs.declared.list.List.TheVariants as choice
use Rattle.alm_lines.specs.Texts.{switch_text}
use Rattle.alm_lines.specs.Reply.{fields, text_field, kind_word, attributes_text, row_text, with_spaces, report_text, no_text, told_text, query_word, shown_word, letters, deadline_text, digit}

-- each number after a space: six bytes at most
pub spaced-short : (xs : List ℕ) → AllByRecursion (λ x. x < 16384) xs → length (with_spaces xs) ≤ 6 * length xs
spaced-short [] a = omega arith
spaced-short (x ∷ xs) a =
    omega (arith, length-append (32 ∷ decimal x) (with_spaces xs), length-decimal-le 5 x (omega arith) (omega (arith, a.0)) (omega (arith, a.0)), spaced-short xs a.1)

-- the numbers of a list are those of alarms
inside : (q : Condensed) (test : ℕ → Bool) → AllByRecursion (λ x. x < length q.panel.rows) (filter test (range_with_len 0 (length q.panel.rows)))
inside q test = all-filter (λ x. x < length q.panel.rows) test _ (all-range (λ x. x < length q.panel.rows) 0 (length q.panel.rows) (λ x h k. omega (arith, k)))

-- and the word of what is shown has five letters at most
shown-short : (s : Shown) → length (shown_word s) ≤ 5
shown-short shown.OutOfService = omega arith
shown-short shown.ByDesign = omega arith
shown-short shown.Shelved = omega arith
shown-short shown.Normal = omega arith
shown-short shown.Unack = omega arith
shown-short shown.Acked = omega arith
shown-short shown.RtnUnack = omega arith
shown-short shown.LatchUnack = omega arith
shown-short shown.LatchAcked = omega arith

outside : {X : Type 0} (xs : List X) (i : ℕ) → slice_get xs i ≡ None → i < length xs → ⊥
outside xs i e h = elim (slice_get_cases xs i).1 [
  | inl (x, within, here, there) ↦ none-some x (sym e ∙ here)
  | inr (past, none) ↦ absurd (omega (arith, h, past))
]

-- the longest word of a query
word-short : (asked : Query) → length (query_word asked) ≤ 9
word-short (query.State i) = omega arith
word-short (query.Priority n) = omega arith
word-short (query.Area n) = omega arith
word-short (query.Wheel n) = omega arith
word-short (query.Flood n) = omega arith
word-short query.Stale = omega arith
word-short query.Chatter = omega arith
word-short query.Plant = omega arith
word-short (query.Attributes i) = omega arith
word-short (query.Row i) = omega arith

either-short : (k : ℕ) (b : Bool) (x y : List ℕ) → length x ≤ k → length y ≤ k → length (if b then x else y) ≤ k
either-short k true x y h j = h
either-short k false x y h j = j

letters-short : (n : ℕ) → length (letters n) ≤ 3
letters-short n =
    either-short 3 (n == 0) (codes "-") _ (omega arith)
    (either-short 3 (n == 1) (codes "S") _ (omega arith)
    (either-short 3 (n == 2) (codes "D") _ (omega arith)
    (either-short 3 (n == 3) (codes "DS") _ (omega arith)
    (either-short 3 (n == 4) (codes "O") _ (omega arith)
    (either-short 3 (n == 5) (codes "OS") _ (omega arith)
    (either-short 3 (n == 6) (codes "OD") (codes "ODS") (omega arith) (omega arith)))))))

digit-short : (b : Bool) → length (decimal (digit b)) ≤ 1
digit-short true = length-decimal-le 1 1 (omega arith) (omega arith) (omega arith)
digit-short false = length-decimal-le 1 0 (omega arith) (omega arith) (omega arith)

four : (a b c d : List ℕ) → length (a ++ b ++ c ++ d) ≡ length a + length b + length c + length d
four a b c d = omega (arith, length-append (a ++ b ++ c) d, length-append (a ++ b) c, length-append a b)

five : (a b c d e : List ℕ) → length (a ++ b ++ c ++ d ++ e) ≡ length a + length b + length c + length d + length e
five a b c d e = omega (arith, length-append (a ++ b ++ c ++ d) e, four a b c d)

six : (a b c d e f : List ℕ) → length (a ++ b ++ c ++ d ++ e ++ f) ≡ length a + length b + length c + length d + length e + length f
six a b c d e f = omega (arith, length-append (a ++ b ++ c ++ d ++ e) f, five a b c d e)

eight : (a b c d e f g h : List ℕ) → length (a ++ b ++ c ++ d ++ e ++ f ++ g ++ h) ≡ length a + length b + length c + length d + length e + length f + length g + length h
eight a b c d e f g h = omega (arith, length-append (a ++ b ++ c ++ d ++ e ++ f ++ g) h, length-append (a ++ b ++ c ++ d ++ e ++ f) g, length-append (a ++ b ++ c ++ d ++ e) f, five a b c d e)

-- the fields of a report, each a byte longer than itself
fields-short : (n m : ℕ) (field : List ℕ) (others : List (List ℕ)) → length field ≤ n → length (fields others) ≤ m → length (fields (field ∷ others)) ≤ 1 + n + m
fields-short n m field others first rest = omega (arith, length-append (32 ∷ field) (fields others), first, rest)

text-short : (text : List ℕ) → length text ≤ 80 → length (fields (text_field text)) ≤ 81
text-short [] h = omega arith
text-short (c ∷ cs) h = fields-short 80 0 (c ∷ cs) [] h (omega arith)

kind-short : (k : Kind) → length (kind_word k) ≤ 8
kind-short kind.High = omega arith
kind-short kind.Low = omega arith
kind-short kind.Discrete = omega arith

switch-short : (on : Bool) → length (switch_text on) ≤ 3
switch-short true = omega arith
switch-short false = omega arith

reading-short : (v : ℤ) → IsReading v → length (signed_decimal v) ≤ 14
reading-short (pos n) h =
    let within : n ≤ 1000000000000 = leb_yes h.1.le in
    length_signed_le 13 (pos n) (omega (arith, within)) (omega (arith, within))
reading-short (negsuc n) h =
    let within : n ≤ 999999999999 = leb_yes h.0.le in
    length_signed_le 13 (negsuc n) (omega (arith, within)) (omega (arith, within))

deadband-short : (k : Kind) (n : ℕ) → n ≤ deadband_limit k → length (decimal n) ≤ 13
deadband-short kind.High n h = length-decimal-le 13 n (omega arith) (omega (arith, h)) (omega (arith, h))
deadband-short kind.Low n h = length-decimal-le 13 n (omega arith) (omega (arith, h)) (omega (arith, h))
deadband-short kind.Discrete n h = length-decimal-le 13 n (omega arith) (omega (arith, h)) (omega (arith, h))

attributes-short : (a : Attr) → length (attributes_text a) ≤ 168
attributes-short a =
    let tag = a.tag ∷ text_field a.text in
    let latching = switch_text a.latching ∷ tag in
    let longest = decimal a.max_shelve ∷ latching in
    let area = decimal a.area ∷ longest in
    let priority = decimal a.priority ∷ area in
    let deadband = decimal a.deadband ∷ priority in
    let setpoint = signed_decimal a.setpoint ∷ deadband in
    fields-short 8 159 (kind_word a.kind) setpoint (kind-short a.kind)
    (fields-short 14 144 (signed_decimal a.setpoint) deadband (reading-short a.setpoint a.setpoint_range)
    (fields-short 13 130 (decimal a.deadband) priority (deadband-short a.kind a.deadband a.deadband_limit)
    (fields-short 1 128 (decimal a.priority) area (length-decimal-le 1 a.priority (omega arith) (omega (arith, a.priority_limits)) (omega (arith, a.priority_limits)))
    (fields-short 2 125 (decimal a.area) longest (length-decimal-le 2 a.area (omega arith) (omega (arith, a.area_limit)) (omega (arith, a.area_limit)))
    (fields-short 6 118 (decimal a.max_shelve) latching (length-decimal-le 6 a.max_shelve (omega arith) (omega (arith, a.max_shelve_limit)) (omega (arith, a.max_shelve_limit)))
    (fields-short 3 114 (switch_text a.latching) tag (switch-short a.latching)
    (fields-short 32 81 a.tag (text_field a.text) (length-tag a.tag a.tag_limits) (text-short a.text (length-text a.text a.text_limits)))))))))

-- the moments of a row are its alarm's
three : (ms : List ℕ) → length ms ≤ 3 → take 3 ms ≡ ms
three [] few = refl
three (t ∷ []) few = refl
three (t ∷ u ∷ []) few = refl
three (t ∷ u ∷ w ∷ []) few = refl
three (t ∷ u ∷ w ∷ x ∷ more) few = absurd (omega (arith, few))

moments-short : (now : ℕ) (ms : List ℕ) → now < 2 ^ 40 → IsFalling now ms → length (fields (map decimal ms)) ≤ 14 * length ms
moments-short now [] small falls = omega arith
moments-short now (t ∷ ms) small falls =
    omega (
      arith,
      length-append (32 ∷ decimal t) (fields (map decimal ms)),
      length-decimal-le 13 t (omega arith) (omega (arith, falls.0, small)) (omega (arith, falls.0, small)),
      moments-short t ms (omega (arith, falls.0, small)) falls.1,
    )

-- a row has at most 107 bytes
row-text-short : (now next : ℕ) (a : Attr) (s : State) (ms : List ℕ) → now < 2 ^ 40 → next ≤ 1 + 2 ^ 62 → IsAlarm now next a s ms → length (deadline_text s.shelved_until) ≤ 13
    → length (row_text (row_of s a ms)) ≤ 107
row-text-short now next a s ms small stamps is until = rw (three ms is.few)
    (let moments = map decimal ms in
    let count = decimal (length ms) ∷ moments in
    let setpoint = signed_decimal a.setpoint ∷ count in
    let priority = decimal a.priority ∷ setpoint in
    let stamp = decimal s.stamp ∷ priority in
    let deadline = deadline_text s.shelved_until ∷ stamp in
    let flags = letters (flags_of s) ∷ deadline in
    let active = decimal (digit s.active) ∷ flags in
    let last : length (fields moments) ≤ 42 = omega (arith, moments-short now ms small is.moments, is.few) in
    fields-short 5 101 (shown_word (shown_of s)) active (shown-short (shown_of s))
    (fields-short 1 99 (decimal (digit s.active)) flags (digit-short s.active)
    (fields-short 3 95 (letters (flags_of s)) deadline (letters-short (flags_of s))
    (fields-short 13 81 (deadline_text s.shelved_until) stamp until
    (fields-short 19 61 (decimal s.stamp) priority (length-decimal-le 19 s.stamp (omega arith) (omega (arith, is.stamp, stamps)) (omega (arith, is.stamp, stamps)))
    (fields-short 1 59 (decimal a.priority) setpoint (length-decimal-le 1 a.priority (omega arith) (omega (arith, a.priority_limits)) (omega (arith, a.priority_limits)))
    (fields-short 14 44 (signed_decimal a.setpoint) count (reading-short a.setpoint a.setpoint_range)
    (fields-short 1 42 (decimal (length ms)) moments (length-decimal-le 1 (length ms) (omega arith) (omega (arith, is.few)) (omega (arith, is.few))) last))))))))

module _ (q : Condensed) (id : ℕ) (rules : KeepsRules q) (actions : q.panel.count ≤ 2 ^ 48) (small : id < 2 ^ 32) where
  -- what is reported is as long as its report, and a little more
  told-short : (asked : Query) (r : Report) → length (report_text r) ≤ 131000 → length (told_text id q.panel.count asked r) ≤ 131072
  told-short asked r short =
      let size : length (told_text id q.panel.count asked r) ≡ length (decimal id) + length (query_word asked) + length (decimal q.panel.count) + length (report_text r) + 1 = five (decimal id) (query_word asked) (decimal q.panel.count) (report_text r) (codes "\n") in
      omega (
        arith,
        size,
        length-decimal-le 10 id (omega arith) (omega (arith, small)) (omega (arith, small)),
        word-short asked,
        length-decimal-le 15 q.panel.count (omega arith) (omega (arith, actions)) (omega (arith, actions)),
        short,
      )

  refused-short : (refusal : Refusal) → length (decimal (number_of refusal)) ≤ 2 → length (no_text id refusal) ≤ 131072
  refused-short refusal short =
      let size : length (no_text id refusal) ≡ length (decimal id) + 4 + length (decimal (number_of refusal)) + 1 = four (decimal id) (codes " NO ") (decimal (number_of refusal)) (codes "\n") in
      omega (arith, size, length-decimal-le 10 id (omega arith) (omega (arith, small)) (omega (arith, small)), short)

  -- a list of the measures
  few-measured : (test : List ℕ → Bool) (c : Choice) → length (lists.measured_alarms test c q) ≤ length q.panel.rows
  few-measured test c =
      omega (
        arith,
        length-filter (λ i. test (lists.moments_in (slice_get q.kept.moments i))) (lists.alarms (lists.stands_in c) q.panel.attrs q.panel.rows),
        count_by-le-length (λ i. test (lists.moments_in (slice_get q.kept.moments i))) (lists.alarms (lists.stands_in c) q.panel.attrs q.panel.rows),
        length-filter (lists.is_one (lists.stands_in c) q.panel.attrs q.panel.rows) (range_with_len 0 (length q.panel.rows)),
        count_by-le-length (lists.is_one (lists.stands_in c) q.panel.attrs q.panel.rows) (range_with_len 0 (length q.panel.rows)),
        length-range_with_len 0 (length q.panel.rows),
      )

  few : (c : Choice) → length (lists.list_of c q) ≤ length q.panel.rows
  few (choice.Priority n) = listed-few lists.stamp (lists.stands_in (choice.Priority n)) q.panel.attrs q.panel.rows
  few (choice.Area n) = listed-few lists.stamp (lists.stands_in (choice.Area n)) q.panel.attrs q.panel.rows
  few (choice.Wheel n) = listed-few lists.stamp (lists.stands_in (choice.Wheel n)) q.panel.attrs q.panel.rows
  few choice.Stale = few-measured (lists.is_old q.panel.now) choice.Stale
  few choice.Chatter = few-measured (lists.is_frequent q.panel.now) choice.Chatter

  below : (x : ℕ) → x < length q.panel.rows → x < 16384
  below x h = omega (arith, h, rules.few)

  alarms-below : (test : Attr → State → Bool) → AllByRecursion (λ x. x < 16384) (lists.alarms test q.panel.attrs q.panel.rows)
  alarms-below test = every below _ (inside q (lists.is_one test q.panel.attrs q.panel.rows))

  all-below : (c : Choice) → AllByRecursion (λ x. x < 16384) (lists.list_of c q)
  all-below (choice.Priority n) = all-in_order (λ x. x < 16384) _ _ (alarms-below (lists.stands_in (choice.Priority n)))
  all-below (choice.Area n) = all-in_order (λ x. x < 16384) _ _ (alarms-below (lists.stands_in (choice.Area n)))
  all-below (choice.Wheel n) = all-in_order (λ x. x < 16384) _ _ (alarms-below (lists.stands_in (choice.Wheel n)))
  all-below choice.Stale = all-filter (λ x. x < 16384) _ _ (alarms-below (lists.stands_in choice.Stale))
  all-below choice.Chatter = all-filter (λ x. x < 16384) _ _ (alarms-below (lists.stands_in choice.Chatter))

  list-short : (c : Choice) → length (report_text (alarms (lists.list_of c q))) ≤ 131000
  list-short c =
      omega (
        arith,
        length-append (codes " ") (decimal (length (lists.list_of c q)) ++ with_spaces (lists.list_of c q)),
        length-append (decimal (length (lists.list_of c q))) (with_spaces (lists.list_of c q)),
        length-decimal-le 5 (length (lists.list_of c q)) (omega arith) (omega (arith, few c, rules.few)) (omega (arith, few c, rules.few)),
        spaced-short (lists.list_of c q) (all-below c),
        few c,
        rules.few,
      )

  listed-short : (asked : Query) (c : Choice) (b : Bool) → length (report_reply id q.panel.count asked (if b then Ok (alarms (lists.list_of c q)) else Err refusal.NoSuchList)) ≤ 131072
  listed-short asked c true = told-short asked (alarms (lists.list_of c q)) (list-short c)
  listed-short asked c false = refused-short refusal.NoSuchList (length-decimal-le 2 17 (omega arith) (omega arith) (omega arith))

  -- an area
  flood-short : (asked : Query) (a : ℕ) (o : Option (List ℕ)) (f : Option Bool) → slice_get q.kept.ages a ≡ o → length (report_reply id q.panel.count asked (flood_report o f)) ≤ 131072
  flood-short asked a None f e = refused-short refusal.NoSuchList (length-decimal-le 2 17 (omega arith) (omega arith) (omega arith))
  flood-short asked a (Some ages) None e = refused-short refusal.NoSuchList (length-decimal-le 2 17 (omega arith) (omega arith) (omega arith))
  flood-short asked a (Some ages) (Some on) e =
      let whole : sum ages ≤ sum_by sum q.kept.ages = subst (λ w. sum w ≤ sum_by sum q.kept.ages) (get_or_from_slice_get q.kept.ages a ages [] e) (get_or-le-sum_by sum q.kept.ages a [] (slice_get_within q.kept.ages a ages e)) in
      let window : sum ages < 2 ^ 63 = omega (arith, whole, rules.annunciations, rules.stamps, actions) in
      let size : length (report_text (flood (sum ages) on)) ≡ 1 + length (decimal (sum ages)) + 1 + length (decimal (digit on)) = four (codes " ") (decimal (sum ages)) (codes " ") (decimal (digit on)) in
      told-short asked (flood (sum ages) on) (omega (arith, size, length-decimal-le 19 (sum ages) (omega arith) (omega (arith, window)) (omega (arith, window)), digit-short on))

  -- an alarm
  deadline-short : (longest : ℕ) → longest ≤ 604800 → (until : Option ℕ) → IsAhead q.panel.now longest until → length (deadline_text until) ≤ 13
  deadline-short longest limit None h = omega arith
  deadline-short longest limit (Some t) h = length-decimal-le 13 t (omega arith) (omega (arith, h.1, limit, rules.now)) (omega (arith, h.1, limit, rules.now))

  report-short : (s : State) → length (deadline_text s.shelved_until) ≤ 13 → length (report_text (report_of s)) ≤ 131000
  report-short s until =
      let size : length (report_text (report_of s)) ≡ 1 + length (shown_word (shown_of s)) + 1 + length (decimal (digit s.active)) + 1 + length (letters (flags_of s)) + 1 + length (deadline_text s.shelved_until) = eight (codes " ") (shown_word (shown_of s)) (codes " ") (decimal (digit s.active)) (codes " ") (letters (flags_of s)) (codes " ") (deadline_text s.shelved_until) in
      omega (arith, size, shown-short (shown_of s), digit-short s.active, letters-short (flags_of s), until)

  alarm-short : (asked : Query) (i : ℕ) (o : Option State) (a : Option Attr) (ms : Option (List ℕ)) → slice_get q.panel.rows i ≡ o → slice_get q.panel.attrs i ≡ a → slice_get q.kept.moments i ≡ ms → length (report_reply id q.panel.count asked (state_report o)) ≤ 131072
  alarm-short asked i None a ms e f g = refused-short refusal.NoSuchAlarm (length-decimal-le 2 1 (omega arith) (omega arith) (omega arith))
  alarm-short asked i (Some s) None ms e f g = absurd (outside q.panel.attrs i f (omega (arith, slice_get_within q.panel.rows i s e, rules.attrs)))
  alarm-short asked i (Some s) (Some a) None e f g = absurd (outside q.kept.moments i g (omega (arith, slice_get_within q.panel.rows i s e, rules.recent)))
  alarm-short asked i (Some s) (Some a) (Some ms) e f g = told-short asked (report_of s) (report-short s (deadline-short a.max_shelve a.max_shelve_limit s.shelved_until (rules.alarms i a s ms f e g).deadline))

  -- the row of an alarm
  row-short : (asked : Query) (i : ℕ) (o : Option State) (a : Option Attr) (ms : Option (List ℕ)) → slice_get q.panel.rows i ≡ o → slice_get q.panel.attrs i ≡ a → slice_get q.kept.moments i ≡ ms → length (report_reply id q.panel.count asked (row_report o a (lists.moments_in ms))) ≤ 131072
  row-short asked i None a ms e f g = refused-short refusal.NoSuchAlarm (length-decimal-le 2 1 (omega arith) (omega arith) (omega arith))
  row-short asked i (Some s) None ms e f g = refused-short refusal.NoSuchAlarm (length-decimal-le 2 1 (omega arith) (omega arith) (omega arith))
  row-short asked i (Some s) (Some a) None e f g = absurd (outside q.kept.moments i g (omega (arith, slice_get_within q.panel.rows i s e, rules.recent)))
  row-short asked i (Some s) (Some a) (Some ms) e f g =
      let is = rules.alarms i a s ms f e g in
      let until = deadline-short a.max_shelve a.max_shelve_limit s.shelved_until is.deadline in
      let size = row-text-short q.panel.now q.panel.next_stamp a s ms rules.now (omega (arith, rules.stamps, actions)) is until in
      told-short asked (row (Some (row_of s a ms))) (omega (arith, size))

  -- the plant's moment and sizes
  plant-short : length (report_text (plant q.panel.now (length q.panel.rows) (length q.floods))) ≤ 131000
  plant-short =
      let size : length (report_text (plant q.panel.now (length q.panel.rows) (length q.floods))) ≡ 1 + length (decimal q.panel.now) + 1 + length (decimal (length q.panel.rows)) + 1 + length (decimal (length q.floods)) = six (codes " ") (decimal q.panel.now) (codes " ") (decimal (length q.panel.rows)) (codes " ") (decimal (length q.floods)) in
      omega (
        arith,
        size,
        length-decimal-le 13 q.panel.now (omega arith) (omega (arith, rules.now)) (omega (arith, rules.now)),
        length-decimal-le 5 (length q.panel.rows) (omega arith) (omega (arith, rules.few)) (omega (arith, rules.few)),
        length-decimal-le 2 (length q.floods) (omega arith) (omega (arith, rules.areas)) (omega (arith, rules.areas)),
      )

  attributed-short : (asked : Query) (o : Option Attr) → length (report_reply id q.panel.count asked (attributes_report o)) ≤ 131072
  attributed-short asked None = refused-short refusal.NoSuchAlarm (length-decimal-le 2 1 (omega arith) (omega arith) (omega arith))
  attributed-short asked (Some a) = told-short asked (attributes (Some a)) (omega (arith, attributes-short a))

  -- no reply to a query
  pub short : (asked : Query) → length (look_reply q id asked Nothing) ≤ 131072
  short (query.State i) = alarm-short (query.State i) i.0 (slice_get q.panel.rows i.0) (slice_get q.panel.attrs i.0) (slice_get q.kept.moments i.0) refl refl refl
  short (query.Flood a) = flood-short (query.Flood a) a (slice_get q.kept.ages a) (slice_get q.floods a) refl
  short (query.Priority n) = listed-short (query.Priority n) (choice.Priority n) (lists.exists (choice.Priority n) q)
  short (query.Area n) = listed-short (query.Area n) (choice.Area n) (lists.exists (choice.Area n) q)
  short (query.Wheel n) = listed-short (query.Wheel n) (choice.Wheel n) (lists.exists (choice.Wheel n) q)
  short query.Stale = listed-short query.Stale choice.Stale (lists.exists choice.Stale q)
  short query.Chatter = listed-short query.Chatter choice.Chatter (lists.exists choice.Chatter q)
  short query.Plant = told-short query.Plant (plant q.panel.now (length q.panel.rows) (length q.floods)) plant-short
  short (query.Attributes i) = attributed-short (query.Attributes i) (slice_get q.panel.attrs i.0)
  short (query.Row i) = row-short (query.Row i) i.0 (slice_get q.panel.rows i.0) (slice_get q.panel.attrs i.0) (slice_get q.kept.moments i.0) refl refl refl
