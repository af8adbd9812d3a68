-- The text of a request has room in a line.
use Rattle.std.proofs.Common.{◌<◌, ◌≤◌, ◌+◌, ◌^◌, ℕ, List, ◌∷◌, ◌++◌, Bool, true, false, Option, Some, None, arith, length, length-append}
use Rattle.std.specs.Prelude.{decimal, codes, ℤ, pos, negsuc}
use Rattle.std.proofs.Math.Facts.{leb_yes}
use Rattle.std.proofs.lemmas.Fmt.{length-decimal-le}
use Rattle.alm_types.specs.declared.action.Action.{Action}
use Rattle.alm_types.specs.declared.action.Action.TheVariants.{Clock, Value, Ack, Reset, Shelve, Unshelve, Oos, Design, SetPriority, SetSetpoint}
use Rattle.alm_types.specs.declared.want.Want.{Want}
use Rattle.alm_types.specs.declared.want.Want.TheVariants.{Do, AckSeen}
use Rattle.alm_types.specs.declared.query.Query.{Query}
use Rattle.alm_types.specs.declared.query.Query.TheVariants.{State, Priority, Area, Wheel, Flood, Stale, Chatter, Plant, Attributes, Row}
use Rattle.alm_types.specs.Actions.{IsAction}
use Rattle.alm_types.specs.Readings.{IsReading}
use Rattle.alm_lines.specs.declared.ask.Ask.{Ask}
use Rattle.alm_lines.specs.declared.ask.Ask.TheVariants.{Act, Look, Recall, Bad}
use Rattle.alm_lines.specs.Texts.{value_text, switch_text, with_one, with_two, ask_text, action_words, want_words, recall_text, query_text, request_text, IsAskInRange, IsWantInRange, IsQueryInRange, IsRecallInRange}

-- a number of 64 bits has at most 20 digits
number-length : (n : ℕ) → n < 2 ^ 64 → length (decimal n) ≤ 20
number-length n h = length-decimal-le 20 n (omega arith) (omega (arith, h)) h

value-length : (v : ℤ) → IsReading v → length (value_text v) ≤ 21
value-length (pos n) h =
    let within : n ≤ 1000000000000 = leb_yes h.1.le in
    omega (arith, number-length n (omega (arith, within)))
value-length (negsuc n) h =
    let within : n ≤ 999999999999 = leb_yes h.0.le in
    grind (arith, number-length (n + 1) (omega (arith, within)))

switch-length : (on : Bool) → length (switch_text on) ≤ 3
switch-length true = omega arith
switch-length false = omega arith

-- a word of at most 8 letters and its fields
one-length : (word field : List ℕ) → length word ≤ 8 → length field ≤ 21 → length (with_one word field) ≤ 60
one-length word field w f = grind (arith, length-append word (32 ∷ field))

two-length : (word first second : List ℕ) → length word ≤ 8 → length first ≤ 20 → length second ≤ 21 → length (with_two word first second) ≤ 60
two-length word first second w f s = grind (arith, length-append word (32 ∷ (first ++ 32 ∷ second)), length-append first (32 ∷ second))

alarm-length : (n : ℕ) → n < 2 ^ 32 → length (decimal n) ≤ 20
alarm-length n h = number-length n (omega (arith, h))

action-length : (action : Action) → IsAction action → length (action_words action) ≤ 60
action-length (Clock t) h = one-length (codes "CLOCK") (decimal t) (omega arith) (omega (arith, number-length t (omega (arith, h.argument))))
action-length (Value i v) h = two-length (codes "VAL") (decimal i.0) (value_text v) (omega arith) (alarm-length i.0 h.alarm) (value-length v h.argument)
action-length (Ack i) h = one-length (codes "ACK") (decimal i.0) (omega arith) (omega (arith, alarm-length i.0 h.alarm))
action-length (Reset i) h = one-length (codes "RESET") (decimal i.0) (omega arith) (omega (arith, alarm-length i.0 h.alarm))
action-length (Shelve i s) h = two-length (codes "SHELVE") (decimal i.0) (decimal s) (omega arith) (alarm-length i.0 h.alarm) (omega (arith, alarm-length s h.argument))
action-length (Unshelve i) h = one-length (codes "UNSHELVE") (decimal i.0) (omega arith) (omega (arith, alarm-length i.0 h.alarm))
action-length (Oos i on) h = two-length (codes "OOS") (decimal i.0) (switch_text on) (omega arith) (alarm-length i.0 h.alarm) (omega (arith, switch-length on))
action-length (Design i on) h = two-length (codes "DESIGN") (decimal i.0) (switch_text on) (omega arith) (alarm-length i.0 h.alarm) (omega (arith, switch-length on))
action-length (SetPriority i n) h = two-length (codes "PRIO") (decimal i.0) (decimal n) (omega arith) (alarm-length i.0 h.alarm) (omega (arith, alarm-length n h.argument))
action-length (SetSetpoint i v) h = two-length (codes "SETP") (decimal i.0) (value_text v) (omega arith) (alarm-length i.0 h.alarm) (value-length v h.argument)

want-length : (want : Want) → IsWantInRange want → length (want_words want) ≤ 60
want-length (Do action) h = action-length action h
want-length (AckSeen i s) h = two-length (codes "ACK") (decimal i.0) (decimal s) (omega arith) (alarm-length i.0 h.0) (omega (arith, number-length s (omega (arith, h.1))))

recall-length : (after : Option ℕ) → IsRecallInRange after → length (recall_text after) ≤ 60
recall-length None h = omega arith
recall-length (Some n) h = one-length (codes "SINCE") (decimal n) (omega arith) (omega (arith, number-length n (omega (arith, h))))

query-length : (query : Query) → IsQueryInRange query → length (query_text query) ≤ 60
query-length (State i) h = one-length (codes "STATE") (decimal i.0) (omega arith) (omega (arith, alarm-length i.0 h))
query-length (Priority n) h = two-length (codes "LIST") (codes "P") (decimal n) (omega arith) (omega arith) (omega (arith, alarm-length n h))
query-length (Area n) h = two-length (codes "LIST") (codes "A") (decimal n) (omega arith) (omega arith) (omega (arith, alarm-length n h))
query-length (Wheel n) h = two-length (codes "LIST") (codes "S") (decimal n) (omega arith) (omega arith) (omega (arith, alarm-length n h))
query-length (Flood n) h = one-length (codes "FLOOD") (decimal n) (omega arith) (omega (arith, alarm-length n h))
query-length Stale h = omega arith
query-length Chatter h = omega arith
query-length Plant h = omega arith
query-length (Attributes i) h = one-length (codes "ATTR") (decimal i.0) (omega arith) (omega (arith, alarm-length i.0 h))
query-length (Row i) h = one-length (codes "ROW") (decimal i.0) (omega arith) (omega (arith, alarm-length i.0 h))

ask-length : (ask : Ask) → IsAskInRange ask → length (ask_text ask) ≤ 60
ask-length (Act want) h = want-length want h
ask-length (Look query) h = query-length query h
ask-length (Recall after) h = recall-length after h
ask-length (Bad refusal) h = absurd h

-- so a request has less than 128 bytes, with the end of its line
pub request-length : (id : ℕ) (ask : Ask) → id < 2 ^ 32 → IsAskInRange ask → length (request_text id ask) ≤ 127
request-length id ask below range =
    grind (arith, alarm-length id below, ask-length ask range, length-append (decimal id) (32 ∷ ask_text ask))
