-- The one text of each request, without its line end.
use Rattle.std.specs.Prelude.{ℕ, ◌<◌, ◌≤◌, ◌^◌, Option, Some, None, List, [], ◌∷◌, ◌++◌, Bool, true, false, codes, decimal, ℤ, pos, negsuc, ◌+◌}
use Rattle.alm_types.specs.Actions.{IsAction}
use Rattle.alm_types.specs.declared.action.Action.{Action}
use Rattle.alm_types.specs.declared.action.Action.TheVariants.{Clock, Value, Ack, Reset, Shelve, Unshelve, Oos, Design, SetPriority, SetSetpoint}
use Rattle.alm_types.specs.declared.want.Want.{Want}
use Rattle.alm_types.specs.declared.want.Want.TheVariants.{Do, AckSeen}
use Rattle.alm_types.specs.Sizes.{most_actions}
use Rattle.alm_types.specs.declared.query.Query.{Query}
use Rattle.alm_types.specs.declared.query.Query.TheVariants.{State, Priority, Area, Wheel, Flood, Stale, Chatter, Plant, Attributes, Row}
use Rattle.alm_lines.specs.declared.ask.Ask.{Ask}
use Rattle.alm_lines.specs.declared.ask.Ask.TheVariants.{Act, Look, Recall, Bad}

-- a value, with minus below 0
abbrev pub value_text : ℤ → List ℕ
value_text (pos n) = decimal n
value_text (negsuc n) = 45 ∷ decimal (n + 1)

-- ON or OFF
abbrev pub switch_text : Bool → List ℕ
switch_text true = codes "ON"
switch_text false = codes "OFF"

-- a word, a space and a field; and two fields with a space between them
abbrev pub with_one : List ℕ → List ℕ → List ℕ
with_one word field = word ++ 32 ∷ field

abbrev pub with_two : List ℕ → List ℕ → List ℕ → List ℕ
with_two word first second = word ++ 32 ∷ (first ++ 32 ∷ second)

abbrev pub action_words : Action → List ℕ
action_words (Clock t) = with_one (codes "CLOCK") (decimal t)
action_words (Value i v) = with_two (codes "VAL") (decimal i.0) (value_text v)
action_words (Ack i) = with_one (codes "ACK") (decimal i.0)
action_words (Reset i) = with_one (codes "RESET") (decimal i.0)
action_words (Shelve i seconds) = with_two (codes "SHELVE") (decimal i.0) (decimal seconds)
action_words (Unshelve i) = with_one (codes "UNSHELVE") (decimal i.0)
action_words (Oos i on) = with_two (codes "OOS") (decimal i.0) (switch_text on)
action_words (Design i on) = with_two (codes "DESIGN") (decimal i.0) (switch_text on)
action_words (SetPriority i n) = with_two (codes "PRIO") (decimal i.0) (decimal n)
action_words (SetSetpoint i v) = with_two (codes "SETP") (decimal i.0) (value_text v)

abbrev pub want_words : Want → List ℕ
want_words (Do action) = action_words action
want_words (AckSeen i stamp) = with_two (codes "ACK") (decimal i.0) (decimal stamp)

abbrev pub query_text : Query → List ℕ
query_text (State i) = with_one (codes "STATE") (decimal i.0)
query_text (Priority n) = with_two (codes "LIST") (codes "P") (decimal n)
query_text (Area n) = with_two (codes "LIST") (codes "A") (decimal n)
query_text (Wheel n) = with_two (codes "LIST") (codes "S") (decimal n)
query_text (Flood n) = with_one (codes "FLOOD") (decimal n)
query_text Stale = codes "STALE"
query_text Chatter = codes "CHATTER"
query_text Plant = codes "PLANT"
query_text (Attributes i) = with_one (codes "ATTR") (decimal i.0)
query_text (Row i) = with_one (codes "ROW") (decimal i.0)

abbrev pub recall_text : Option ℕ → List ℕ
recall_text None = codes "SINCE"
recall_text (Some n) = with_one (codes "SINCE") (decimal n)

-- what follows the id and its space; a line that asks nothing has no such text
abbrev pub ask_text : Ask → List ℕ
ask_text (Act want) = want_words want
ask_text (Look query) = query_text query
ask_text (Recall after) = recall_text after
ask_text (Bad refusal) = []

-- the text of a request under an id
abbrev pub request_text : ℕ → Ask → List ℕ
request_text id ask = with_one (decimal id) (ask_text ask)

-- the numbers of what is wanted fit their types
abbrev pub IsWantInRange : Want → Type 0
IsWantInRange (Do action) = IsAction action
IsWantInRange (AckSeen i stamp) = (i.0 < 2 ^ 32) × (stamp < 2 ^ 63)

-- the numbers of a query fit their types
abbrev pub IsQueryInRange : Query → Type 0
IsQueryInRange (State i) = i.0 < 2 ^ 32
IsQueryInRange (Priority n) = n < 2 ^ 32
IsQueryInRange (Area n) = n < 2 ^ 32
IsQueryInRange (Wheel n) = n < 2 ^ 32
IsQueryInRange (Flood n) = n < 2 ^ 32
IsQueryInRange Stale = Unit {0}
IsQueryInRange Chatter = Unit {0}
IsQueryInRange Plant = Unit {0}
IsQueryInRange (Attributes i) = i.0 < 2 ^ 32
IsQueryInRange (Row i) = i.0 < 2 ^ 32

-- the number after which is reported is one that a plant may have
abbrev pub IsRecallInRange : Option ℕ → Type 0
IsRecallInRange None = Unit {0}
IsRecallInRange (Some n) = n ≤ most_actions

-- a line asks for something, in range
abbrev pub IsAskInRange : Ask → Type 0
IsAskInRange (Act want) = IsWantInRange want
IsAskInRange (Look query) = IsQueryInRange query
IsAskInRange (Recall after) = IsRecallInRange after
IsAskInRange (Bad refusal) = ⊥

-- a line asks for something
abbrev pub IsAsking : Ask → Type 0
IsAsking (Act want) = Unit {0}
IsAsking (Look query) = Unit {0}
IsAsking (Recall after) = Unit {0}
IsAsking (Bad refusal) = ⊥
