-- What a line asks.
use Rattle.std.specs.Prelude.{ℕ, ◌+◌, ◌-◌, ◌*◌, ◌^◌, List, [], ◌∷◌, Bool, true, false, ◌&&◌, Option, Some, None, length, take, drop, position, option_map, option_and_then, unwrap_or, ℤ, pos, neg_ℤ, nat_eq, codes, nat_lt, nat_le, ◌==◌, if◌then◌else◌}
use Rattle.std.specs.Cmp.Lexicographic.{pointwise}
use Rattle.alm_types.specs.declared.alarm_id.AlarmId.{AlarmId}
use Rattle.alm_types.specs.declared.action.Action.TheVariants.{Clock, Value, Ack, Reset, Shelve, Unshelve, Oos, Design, SetPriority, SetSetpoint}
use Rattle.alm_types.specs.declared.want.Want.TheVariants.{Do, AckSeen}
use Rattle.alm_types.specs.declared.refusal.Refusal.TheVariants.{BadLine, LineTooLong}
use Rattle.alm_types.specs.declared.query.Query.TheVariants.{State, Priority, Area, Wheel, Flood, Stale, Chatter, Plant, Attributes, Row}
use Rattle.alm_types.specs.Sizes.{most_actions}
use Rattle.alm_lines.specs.declared.line.Line.{Line}
use Rattle.alm_lines.specs.declared.ask.Ask.{Ask}
use Rattle.alm_lines.specs.declared.ask.Ask.TheVariants.{Act, Look, Recall, Bad}

-- the value of digits after others
abbrev pub value : ℕ → List ℕ → Option ℕ
value n [] = Some n
value n (d ∷ digits) = if nat_le 48 d && nat_le d 57 then value (n * 10 + (d - 48)) digits else None

-- a value below a limit
abbrev pub up_to : ℕ → Option ℕ → Option ℕ
up_to limit None = None
up_to limit (Some n) = if nat_lt n limit then Some n else None

-- a number below a limit: 0, or digits that begin with another one
abbrev pub number : ℕ → List ℕ → Option ℕ
number limit [] = None
number limit (d ∷ []) = up_to limit (value 0 (d ∷ []))
number limit (d ∷ e ∷ digits) = if d == 48 then None else up_to limit (value 0 (d ∷ e ∷ digits))

-- a number of 32 bits
abbrev pub word : List ℕ → Option ℕ
word = number (2 ^ 32)

abbrev pub alarm : List ℕ → Option AlarmId
alarm digits = option_map (λ n. record { 0 = n }) (word digits)

-- a moment
abbrev pub moment_in : List ℕ → Option ℕ
moment_in = number (2 ^ 40)

-- how many actions a plant has had
abbrev pub count_in : List ℕ → Option ℕ
count_in = number (most_actions + 1)

-- the stamp of an annunciation
abbrev pub stamp_number : List ℕ → Option ℕ
stamp_number = number (2 ^ 63)

-- minus and a number that is not 0
abbrev pub negative : Option ℕ → Option ℤ
negative None = None
negative (Some n) = if n == 0 then None else Some (neg_ℤ (pos n))

-- a value of the process, with or without minus
abbrev pub reading_from : List ℕ → Option ℤ
reading_from [] = None
reading_from (d ∷ digits) = if d == 45 then negative (number 1000000000001 digits) else option_map pos (number 1000000000001 (d ∷ digits))

abbrev pub same : List ℕ → List ℕ → Bool
same = pointwise nat_eq

-- on or off
abbrev pub switch : List ℕ → Option Bool
switch field = if same field (codes "ON") then Some true else if same field (codes "OFF") then Some false else None

-- the bytes before the first space, and those after it
abbrev pub cut_at : List ℕ → Option ℕ → List ℕ × Option (List ℕ)
cut_at bytes None = (bytes, None)
cut_at bytes (Some at) = (take at bytes, Some (drop (at + 1) bytes))

abbrev pub cut_at_space : List ℕ → List ℕ × Option (List ℕ)
cut_at_space bytes = cut_at bytes (position (λ b. b == 32) bytes)

-- what a word asks alone
abbrev pub of_none : List ℕ → Option Ask
of_none name =
    if same name (codes "STALE") then Some (Look Stale)
    else if same name (codes "CHATTER") then Some (Look Chatter)
    else if same name (codes "PLANT") then Some (Look Plant)
    else if same name (codes "SINCE") then Some (Recall None)
    else None

-- and of one field
abbrev pub of_one : List ℕ → List ℕ → Option Ask
of_one name first =
    if same name (codes "ACK") then option_map (λ i. Act (Do (Ack i))) (alarm first)
    else if same name (codes "RESET") then option_map (λ i. Act (Do (Reset i))) (alarm first)
    else if same name (codes "UNSHELVE") then option_map (λ i. Act (Do (Unshelve i))) (alarm first)
    else if same name (codes "CLOCK") then option_map (λ t. Act (Do (Clock t))) (moment_in first)
    else if same name (codes "STATE") then option_map (λ i. Look (State i)) (alarm first)
    else if same name (codes "FLOOD") then option_map (λ a. Look (Flood a)) (word first)
    else if same name (codes "ATTR") then option_map (λ i. Look (Attributes i)) (alarm first)
    else if same name (codes "ROW") then option_map (λ i. Look (Row i)) (alarm first)
    else if same name (codes "SINCE") then option_map (λ n. Recall (Some n)) (count_in first)
    else None

-- the list that a letter names
abbrev pub of_letter : List ℕ → ℕ → Option Ask
of_letter letter n =
    if same letter (codes "P") then Some (Look (Priority n))
    else if same letter (codes "A") then Some (Look (Area n))
    else if same letter (codes "S") then Some (Look (Wheel n))
    else None

-- and of two
abbrev pub of_two : List ℕ → List ℕ → List ℕ → Option Ask
of_two name first second =
    if same name (codes "VAL") then option_and_then (λ i. option_map (λ v. Act (Do (Value i v))) (reading_from second)) (alarm first)
    else if same name (codes "SHELVE") then option_and_then (λ i. option_map (λ s. Act (Do (Shelve i s))) (word second)) (alarm first)
    else if same name (codes "OOS") then option_and_then (λ i. option_map (λ on. Act (Do (Oos i on))) (switch second)) (alarm first)
    else if same name (codes "DESIGN") then option_and_then (λ i. option_map (λ on. Act (Do (Design i on))) (switch second)) (alarm first)
    else if same name (codes "PRIO") then option_and_then (λ i. option_map (λ n. Act (Do (SetPriority i n))) (word second)) (alarm first)
    else if same name (codes "SETP") then option_and_then (λ i. option_map (λ v. Act (Do (SetSetpoint i v))) (reading_from second)) (alarm first)
    else if same name (codes "ACK") then option_and_then (λ i. option_map (λ s. Act (AckSeen i s)) (stamp_number second)) (alarm first)
    else if same name (codes "LIST") then option_and_then (of_letter first) (word second)
    else None

abbrev pub of_fields : List ℕ → List ℕ × Option (List ℕ) → Option Ask
of_fields name (first, None) = of_one name first
of_fields name (first, Some second) = of_two name first second

abbrev pub of_rest : List ℕ × Option (List ℕ) → Option Ask
of_rest (name, None) = of_none name
of_rest (name, Some fields) = of_fields name (cut_at_space fields)

-- what follows the id
abbrev pub ask_in : Option (List ℕ) → Option Ask
ask_in None = None
ask_in (Some rest) = of_rest (cut_at_space rest)

-- a line whose id is read asks what follows it; another, and one that is too long, has id 0
abbrev pub line_under : Option ℕ → Option (List ℕ) → Line
line_under None rest = record { id = 0; ask = Bad BadLine }
line_under (Some id) rest = record { id = id; ask = unwrap_or (ask_in rest) (Bad BadLine) }

-- the most bytes of a line, its line end not counted
abbrev pub line_limit : ℕ
line_limit = 127

abbrev pub line_of : List ℕ → Line
line_of bytes =
    if nat_lt line_limit (length bytes) then record { id = 0; ask = Bad LineTooLong } else line_under (word (cut_at_space bytes).0) (cut_at_space bytes).1
