-- How long what happened is, as text.
use Rattle.std.proofs.Common.{◌≡◌, ◌<◌, ◌≤◌, ◌+◌, ◌*◌, ◌^◌, ℕ, List, [], ◌∷◌, ◌++◌, Bool, true, false, arith, length, length-append}
use Rattle.std.specs.Prelude.{decimal, codes, ℤ, pos, negsuc}
use Rattle.std.specs.List.{flat_map, AllByRecursion}
use Rattle.std.proofs.Math.Facts.{leb_yes}
use Rattle.std.proofs.lemmas.Fmt.{length-decimal-le}
use Rattle.alm_types.specs.declared.action.Action.{Action}
use Rattle.alm_types.specs.declared.action.Action.TheVariants.{Clock, Value, Ack, Reset, Shelve, Unshelve, Oos, Design, SetPriority, SetSetpoint}
use Rattle.alm_types.specs.declared.event.Event.{Event}
use Rattle.alm_types.specs.Actions.{IsAction, alarm_of}
use Rattle.alm_types.specs.Readings.{IsReading}
use Rattle.alm_types.specs.Sizes.{most_actions}
use Rattle.alm_lines.specs.Since.{event_text, since_head, recalled_text, IsEvent, IsOfPlant}
use Rattle.alm_lines.specs.Texts.{value_text, switch_text, with_one, with_two, action_words}

value-short : (v : ℤ) → IsReading v → length (value_text v) ≤ 14
value-short (pos n) h =
    let within : n ≤ 1000000000000 = leb_yes h.1.le in
    omega (arith, length-decimal-le 13 n (omega arith) (omega (arith, within)) (omega (arith, within)))
value-short (negsuc n) h =
    let within : n ≤ 999999999999 = leb_yes h.0.le in
    omega (arith, length-decimal-le 13 (n + 1) (omega arith) (omega (arith, within)) (omega (arith, within)))

switch-short : (on : Bool) → length (switch_text on) ≤ 3
switch-short true = omega arith
switch-short false = omega arith

word-short : (n : ℕ) → n < 2 ^ 32 → length (decimal n) ≤ 10
word-short n h = length-decimal-le 10 n (omega arith) (omega (arith, h)) (omega (arith, h))

one-length : (word field : List ℕ) → length (with_one word field) ≡ length word + (1 + length field)
one-length word field = omega (arith, length-append word (32 ∷ field))

two-length : (word first second : List ℕ) → length (with_two word first second) ≡ length word + (1 + (length first + (1 + length second)))
two-length word first second = omega (arith, length-append word (32 ∷ (first ++ 32 ∷ second)), length-append first (32 ∷ second))

-- an action, by the digits of its alarm
action-short : (d : ℕ) (action : Action) → IsAction action → length (decimal (alarm_of action)) ≤ d → length (action_words action) ≤ 20 + d
action-short d (Clock t) h short = omega (arith, one-length (codes "CLOCK") (decimal t), length-decimal-le 13 t (omega arith) (omega (arith, h.argument)) (omega (arith, h.argument)))
action-short d (Value i v) h short = omega (arith, short, two-length (codes "VAL") (decimal i.0) (value_text v), value-short v h.argument)
action-short d (Ack i) h short = omega (arith, short, one-length (codes "ACK") (decimal i.0))
action-short d (Reset i) h short = omega (arith, short, one-length (codes "RESET") (decimal i.0))
action-short d (Shelve i s) h short = omega (arith, short, two-length (codes "SHELVE") (decimal i.0) (decimal s), word-short s h.argument)
action-short d (Unshelve i) h short = omega (arith, short, one-length (codes "UNSHELVE") (decimal i.0))
action-short d (Oos i on) h short = omega (arith, short, two-length (codes "OOS") (decimal i.0) (switch_text on), switch-short on)
action-short d (Design i on) h short = omega (arith, short, two-length (codes "DESIGN") (decimal i.0) (switch_text on), switch-short on)
action-short d (SetPriority i n) h short = omega (arith, short, two-length (codes "PRIO") (decimal i.0) (decimal n), word-short n h.argument)
action-short d (SetSetpoint i v) h short = omega (arith, short, two-length (codes "SETP") (decimal i.0) (value_text v), value-short v h.argument)

-- an event, by the digits of its alarm
event-short : (d : ℕ) (e : Event) → IsEvent e → length (decimal (alarm_of e.action)) ≤ d → length (event_text e) ≤ 38 + d
event-short d e h short =
    let moment = length-decimal-le 13 e.moment (omega arith) (omega (arith, h.moment)) (omega (arith, h.moment)) in
    let slot = length-decimal-le 2 e.slot (omega arith) (omega (arith, h.slot)) (omega (arith, h.slot)) in
    omega (
      arith,
      moment,
      slot,
      action-short d e.action h.action short,
      length-append (decimal e.moment) (32 ∷ (decimal e.slot ++ 32 ∷ action_words e.action)),
      length-append (decimal e.slot) (32 ∷ action_words e.action),
    )

pub plant-event-short : (e : Event) → IsOfPlant e → length (event_text e) ≤ 43
plant-event-short e h = event-short 5 e h.event (length-decimal-le 5 (alarm_of e.action) (omega arith) (omega (arith, h.alarm)) (omega (arith, h.alarm)))

pub any-event-short : (e : Event) → IsEvent e → length (event_text e) ≤ 48
any-event-short e h = event-short 10 e h (word-short (alarm_of e.action) h.action.alarm)

plant-events-short : (events : List Event) → AllByRecursion IsOfPlant events → length (flat_map event_text events) ≤ 43 * length events
plant-events-short [] h = omega arith
plant-events-short (e ∷ events) h = omega (arith, length-append (event_text e) (flat_map event_text events), plant-event-short e h.0, plant-events-short events h.1)

head-length : (id n first len : List ℕ) → length (id ++ codes " SINCE " ++ n ++ codes " " ++ first ++ codes " " ++ len) ≡ length id + length n + length first + length len + 9
head-length id n first len =
    let w = codes " SINCE " in
    let s = codes " " in
    omega (
      arith,
      length-append id w,
      length-append (id ++ w) n,
      length-append (id ++ w ++ n) s,
      length-append (id ++ w ++ n ++ s) first,
      length-append (id ++ w ++ n ++ s ++ first) s,
      length-append (id ++ w ++ n ++ s ++ first ++ s) len,
    )

whole-length : (id n first : ℕ) (events : List Event) → length (recalled_text id n first events) ≡ length (decimal id) + length (decimal n) + length (decimal first) + length (decimal (length events)) + length (flat_map event_text events) + 10
whole-length id n first events =
    let head = since_head id n first (length events) in
    let told = flat_map event_text events in
    omega (arith, length-append (head ++ told) (codes "\n"), length-append head told, head-length (decimal id) (decimal n) (decimal first) (decimal (length events)))

count-short : (n : ℕ) → n ≤ most_actions + 1 → length (decimal n) ≤ 15
count-short n h = length-decimal-le 15 n (omega arith) (omega (arith, h)) (omega (arith, h))

len-short : (n : ℕ) → n ≤ 256 → length (decimal n) ≤ 3
len-short n h = length-decimal-le 3 n (omega arith) (omega (arith, h)) (omega (arith, h))

pub since-short : (id n first : ℕ) (events : List Event) → id < 2 ^ 32 → n ≤ most_actions → first ≤ most_actions + 1 → length events ≤ 256 → AllByRecursion IsOfPlant events → length (recalled_text id n first events) ≤ 11061
since-short id n first events a b c few h =
    omega (arith, whole-length id n first events, word-short id a, count-short n (omega (arith, b)), count-short first c, len-short (length events) few, plant-events-short events h, few)

-- by the types alone
number-short : (n : ℕ) → n < 2 ^ 64 → length (decimal n) ≤ 20
number-short n h = length-decimal-le 20 n (omega arith) (omega (arith, h)) h

pub any-head-short : (id n first len : ℕ) → id < 2 ^ 32 → n < 2 ^ 64 → first < 2 ^ 64 → len < 2 ^ 64 → length (since_head id n first len) ≤ 99
any-head-short id n first len a b c d =
    omega (arith, head-length (decimal id) (decimal n) (decimal first) (decimal len), word-short id a, number-short n b, number-short first c, number-short len d)
