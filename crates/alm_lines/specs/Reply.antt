-- Reply lines.
use Rattle.std.specs.Prelude.{ℕ, List, [], ◌∷◌, ◌++◌, Bool, Option, Some, None, length, map, codes, decimal, if◌then◌else◌, ◌==◌}
use Rattle.std.specs.List.{flat_map}
use Rattle.alm_types.specs.declared.alarm_row.AlarmRow.{AlarmRow}
use Rattle.alm_types.specs.declared.attr.Attr.{Attr}
use Rattle.alm_types.specs.declared.kind.Kind.{Kind}
use Rattle.alm_types.specs.declared.kind.Kind.TheVariants.{High, Low, Discrete}
use Rattle.alm_types.specs.Refusals.{number_of}
use Rattle.alm_types.specs.declared.refusal.Refusal.{Refusal}
use Rattle.alm_types.specs.declared.shown.Shown.{Shown}
use Rattle.alm_types.specs.declared.shown.Shown.TheVariants.{OutOfService, ByDesign, Shelved, Normal, Unack, Acked, RtnUnack, LatchUnack, LatchAcked}
use Rattle.alm_types.specs.declared.query.Query.{Query}
use Rattle.alm_types.specs.declared.query.Query.TheVariants.{State, Priority, Area, Wheel, Flood, Stale, Chatter, Plant, Attributes, Row}
use Rattle.alm_types.specs.Reports.{Report, alarm, flood, alarms, plant, attributes, row, report}
use Rattle.std.specs.Fmt.{signed_decimal}
use Rattle.alm_lines.specs.Since.{recalled_text}
use Rattle.alm_lines.specs.Texts.{switch_text}
use Rattle.alm_lines.specs.declared.reply.Reply.{Reply}
use Rattle.alm_lines.specs.declared.reply.Reply.TheVariants.{Ok, No, Told, Recalled}

-- the word of what is shown
abbrev pub shown_word : Shown → List ℕ
shown_word OutOfService = codes "OOSRV"
shown_word ByDesign = codes "DSUPR"
shown_word Shelved = codes "SHLVD"
shown_word Normal = codes "NORM"
shown_word Unack = codes "UNACK"
shown_word Acked = codes "ACKED"
shown_word RtnUnack = codes "RTNUN"
shown_word LatchUnack = codes "LATUN"
shown_word LatchAcked = codes "LATAK"

-- the letters of flags: 1 is S, 2 is D, 4 is O
abbrev pub letters : ℕ → List ℕ
letters flags =
    if flags == 0 then codes "-"
    else if flags == 1 then codes "S"
    else if flags == 2 then codes "D"
    else if flags == 3 then codes "DS"
    else if flags == 4 then codes "O"
    else if flags == 5 then codes "OS"
    else if flags == 6 then codes "OD"
    else codes "ODS"

-- the moment of a deadline, or -
abbrev pub deadline_text : Option ℕ → List ℕ
deadline_text None = codes "-"
deadline_text (Some t) = decimal t

-- 1 or 0
abbrev pub digit : Bool → ℕ
digit b = if b then 1 else 0

-- each number after a space
abbrev pub with_spaces : List ℕ → List ℕ
with_spaces = flat_map (λ i. 32 ∷ decimal i)

-- the word of a reply
abbrev pub query_word : Query → List ℕ
query_word (State i) = codes " STATE "
query_word (Priority n) = codes " LIST "
query_word (Area n) = codes " LIST "
query_word (Wheel n) = codes " LIST "
query_word (Flood n) = codes " FLOOD "
query_word Stale = codes " STALE "
query_word Chatter = codes " CHATTER "
query_word Plant = codes " PLANT "
query_word (Attributes i) = codes " ATTR "
query_word (Row i) = codes " ROW "

-- the word of a kind
abbrev pub kind_word : Kind → List ℕ
kind_word High = codes "HIGH"
kind_word Low = codes "LOW"
kind_word Discrete = codes "DISCRETE"

-- each field after a space
abbrev pub fields : List (List ℕ) → List ℕ
fields = flat_map (λ field. 32 ∷ field)

-- a text that isn't empty is a field
abbrev pub text_field : List ℕ → List (List ℕ)
text_field [] = []
text_field (c ∷ cs) = (c ∷ cs) ∷ []

-- what precedes a text
abbrev pub gap : List ℕ → List ℕ
gap [] = []
gap (c ∷ cs) = codes " "

-- attributes, the text last
abbrev pub attributes_text : Attr → List ℕ
attributes_text a =
    fields (kind_word a.kind ∷ signed_decimal a.setpoint ∷ decimal a.deadband ∷ decimal a.priority ∷ decimal a.area ∷ decimal a.max_shelve
    ∷ switch_text a.latching ∷ a.tag ∷ text_field a.text)

-- the row of an alarm: what STATE reports, its stamp, the limits in force, the number of its last moments, and these
abbrev pub row_text : AlarmRow → List ℕ
row_text r =
    fields (shown_word r.shown ∷ decimal (digit r.active) ∷ letters r.flags ∷ deadline_text r.until ∷ decimal r.stamp ∷ decimal r.priority
    ∷ signed_decimal r.setpoint ∷ decimal (length r.moments) ∷ map decimal r.moments)

-- what follows the count, without the line's end
abbrev pub report_text : Report → List ℕ
report_text (alarm shown active flags until) =
    codes " " ++ shown_word shown ++ codes " " ++ decimal (digit active) ++ codes " " ++ letters flags ++ codes " " ++ deadline_text until
report_text (flood window on) = codes " " ++ decimal window ++ codes " " ++ decimal (digit on)
report_text (alarms list) = codes " " ++ decimal (length list) ++ with_spaces list
report_text (plant now rows areas) = codes " " ++ decimal now ++ codes " " ++ decimal rows ++ codes " " ++ decimal areas
report_text (attributes (Some a)) = attributes_text a
report_text (attributes None) = codes " -"
report_text (row (Some r)) = row_text r
report_text (row None) = codes " -"

-- an accepted action, by its number
abbrev pub ok_text : ℕ → ℕ → List ℕ
ok_text id n = decimal id ++ codes " OK " ++ decimal n ++ codes "\n"

-- a refusal, by its number
abbrev pub no_text : ℕ → Refusal → List ℕ
no_text id refusal = decimal id ++ codes " NO " ++ decimal (number_of refusal) ++ codes "\n"

-- the answer to a query, under the count of the plant
abbrev pub told_text : ℕ → ℕ → Query → Report → List ℕ
told_text id n query told = decimal id ++ query_word query ++ decimal n ++ report_text told ++ codes "\n"

-- a reply
abbrev pub text_of : Reply → List ℕ
text_of (Ok id n) = ok_text id n
text_of (No id refusal) = no_text id refusal
text_of (Told id n query answer) = told_text id n query (report query answer.now)
text_of (Recalled id n first events) = recalled_text id n first events.now
