-- What a session does in its turns.
use Rattle.std.specs.Prelude.{◌≡◌, ℕ, ◌+◌, ◌≤◌, ◌<◌, true, false, List, [], ◌∷◌, ◌++◌, Option, Result, Ok, Err, IsOk, length, map}
use Rattle.std.specs.List.{flat_map}
use Rattle.alm_types.specs.declared.action.Action.{Action}
use Rattle.alm_types.specs.declared.want.Want.{Want}
use Rattle.alm_types.specs.declared.logged_action.LoggedAction.{LoggedAction}
use Rattle.alm_types.specs.declared.refusal.Refusal.{Refusal}
use Rattle.alm_types.specs.declared.refusal.Refusal.TheVariants as refusal
use Rattle.alm_types.specs.declared.query.Query.{Query}
use Rattle.alm_types.specs.Counts.{one_more}
use Rattle.alm_model.specs.Plant.{Condensed}
use Rattle.alm_model.specs.Look.{look}
use Rattle.alm_model.specs.Step.{run}
use Rattle.alm_model.specs.Judging.{logged_actions}
use Rattle.alm_events.specs.Events.{asked_after, told_after, is_remembered}
use Rattle.alm_events.specs.declared.recalled.Recalled.{Recalled}
use Rattle.alm_lines.specs.declared.line.Line.{Line}
use Rattle.alm_lines.specs.declared.ask.Ask.{Ask}
use Rattle.alm_lines.specs.declared.ask.Ask.TheVariants as ask
use Rattle.alm_lines.specs.Stream.{held_behind}
use Rattle.alm_lines.specs.Reply.{no_text}
use Rattle.alm_lines.specs.Since.{recalled_text}
use Rattle.alm_desk.specs.Answers.{verdict_reply, look_reply, refused_by}
use Rattle.alm_desk.specs.declared.hindrance.Hindrance.{Hindrance}
use Rattle.alm_desk.specs.declared.hindrance.Hindrance.TheVariants.{Nothing}
use Rattle.alm_board.specs.PrefixesOf.{IsPrefixOf}
use Rattle.alm_session.specs.Intakes.{Untaken, lines_from, lines_in, open_in}
use Rattle.alm_session.specs.Outputs.{output_limit}
use Rattle.alm_session.specs.Unanswered.{Heard, IsAnsweredBy}
use Rattle.alm_session.specs.declared.unanswered.Unanswered.{Unanswered}
use Rattle.alm_session.specs.Wires.{WireInput, ReadsGive}

-- what looks were made: by the query, or by the number after which is reported, and its result
pub record Looks : Type 1 where
  pub looked : Query → Result ℕ Refusal → Type 0
  pub recalled : Option ℕ → Result Recalled Refusal → Type 0

abbrev pub no_looks : Looks
no_looks = record { looked = λ asked result. ⊥; recalled = λ after result. ⊥ }

-- looks as a state of the slot's view makes them: from one to another
abbrev pub Looked : Type 0 → Type 1
Looked L = L → Query → Result ℕ Refusal → L → Type 0

abbrev pub Recalls : Type 0 → Type 1
Recalls L = L → Option ℕ → Result Recalled Refusal → L → Type 0

-- those between two states, and those between any
abbrev pub between : {L : Type 0} → Looked L → Recalls L → L → L → Looks
between looked recalled old new = record {
  looked = λ asked result. looked old asked result new;
  recalled = λ after result. recalled old after result new;
}

abbrev pub looks_of : {L : Type 0} → Looked L → Recalls L → Looks
looks_of {L} looked recalled = record {
  looked = λ asked result. (old : L) × ((new : L) × looked old asked result new);
  recalled = λ after result. (old : L) × ((new : L) × recalled old after result new);
}

-- how a line was answered, by its id. An action is answered by the receipt of its request. A query is answered by a look at a list, which the slot
-- then knows, or by the refusal that it gave. If the plant has what is asked for, a query may also be answered by a look that
-- reports that the storage has stopped. What happened is reported by a look at a list of actions with their requests, which the slot
-- then knows. Or it is forgotten by such a list, or the storage has stopped. A bad line is answered by its refusal. A query whose reply is longer than the buffer is
-- refused as out of memory. A receipt of another request than the first that waits answers no line
pub data LineAnswer : Type 0 where
  by_receipt : Unanswered → Heard → LineAnswer
  by_look : ℕ → Query → List Action → LineAnswer
  look_refused : ℕ → Query → List Action → Hindrance → LineAnswer
  no_room : ℕ → Query → List Action → LineAnswer
  stopped : ℕ → Query → LineAnswer
  by_recall : ℕ → Option ℕ → List LoggedAction → LineAnswer
  forgotten : ℕ → Option ℕ → List LoggedAction → LineAnswer
  recall_stopped : ℕ → Option ℕ → LineAnswer
  bad_line : ℕ → Refusal → LineAnswer
  unasked : Heard → LineAnswer

-- what is reported with the events after a number: the count of the plant of a list, and the number of the first one
abbrev pub recalled_of : Condensed → List LoggedAction → ℕ → Recalled
recalled_of base list n = record { count = base.panel.count + length list; first = one_more n }

abbrev pub since_told : Condensed → ℕ → List LoggedAction → ℕ → List ℕ
since_told base id list n = recalled_text id (base.panel.count + length list) (one_more n) (told_after base list n)

-- the reply
abbrev pub answer_text : Condensed → LineAnswer → List ℕ
answer_text base (by_receipt request heard) = verdict_reply request.id heard.number heard.verdict
answer_text base (by_look id query list) = look_reply (run base list) id query Nothing
answer_text base (look_refused id query list hindrance) = look_reply (run base list) id query hindrance
answer_text base (no_room id query list) = no_text id refusal.OutOfMemory
answer_text base (stopped id query) = no_text id refusal.Stopped
answer_text base (by_recall id after list) = since_told base id list (asked_after base list after)
answer_text base (forgotten id after list) = no_text id refusal.Forgotten
answer_text base (recall_stopped id after) = no_text id refusal.Stopped
answer_text base (bad_line id refusal) = no_text id refusal
answer_text base (unasked heard) = []

-- what a line asks
pub data LineKind : Type 0 where
  action : ℕ → Want → LineKind
  query : ℕ → Query → LineKind
  recall : ℕ → Option ℕ → LineKind
  nothing : ℕ → Refusal → LineKind

abbrev pub line_kind_at : ℕ → Ask → LineKind
line_kind_at id (ask.Act want) = action id want
line_kind_at id (ask.Look asked) = query id asked
line_kind_at id (ask.Recall after) = recall id after
line_kind_at id (ask.Bad refusal) = nothing id refusal

abbrev pub line_kind : Line → LineKind
line_kind line = line_kind_at line.id line.ask

-- that of an action that is unanswered
abbrev pub waiting_kind : Unanswered → LineKind
waiting_kind request = action request.id request.want

-- what the lines that were answered ask
abbrev pub kinds : LineAnswer → List LineKind
kinds (by_receipt request heard) = waiting_kind request ∷ []
kinds (by_look id asked list) = query id asked ∷ []
kinds (look_refused id asked list hindrance) = query id asked ∷ []
kinds (no_room id asked list) = query id asked ∷ []
kinds (stopped id asked) = query id asked ∷ []
kinds (by_recall id after list) = recall id after ∷ []
kinds (forgotten id after list) = recall id after ∷ []
kinds (recall_stopped id after) = recall id after ∷ []
kinds (bad_line id refusal) = nothing id refusal ∷ []
kinds (unasked heard) = []

-- the receipts that were received
abbrev pub heards : LineAnswer → List Heard
heards (by_receipt request heard) = heard ∷ []
heards (unasked heard) = heard ∷ []
heards _ = []

abbrev pub unasked_receipts : LineAnswer → List Heard
unasked_receipts (unasked heard) = heard ∷ []
unasked_receipts _ = []

-- what lines want to be done
abbrev pub wants_at : Ask → List Want
wants_at (ask.Act want) = want ∷ []
wants_at (ask.Look asked) = []
wants_at (ask.Recall after) = []
wants_at (ask.Bad refusal) = []

abbrev pub wants : Line → List Want
wants line = wants_at line.ask

-- what is known before and after, by the looks that were made. Each is at a list that begins with all that was known before, and
-- so with every list reported by an earlier receipt
abbrev pub Learns : Looks → Condensed → List Action → LineAnswer → List Action → Type 0
Learns looks base known (by_receipt request heard) next = IsPrefixOf known next × IsPrefixOf heard.list next × IsAnsweredBy request heard
Learns looks base known (by_look id asked list) next = looks.looked asked (Ok (run base list).panel.count) × IsPrefixOf known list × (next ≡ list)
Learns looks base known (look_refused id asked list hindrance) next =
    ((why : Refusal) × looks.looked asked (Err why) × (look_reply (run base list) id asked hindrance ≡ no_text id why)) × IsPrefixOf known list × (next ≡ known)
Learns looks base known (no_room id asked list) next =
    looks.looked asked (Ok (run base list).panel.count) × IsPrefixOf known list × (next ≡ list) × (output_limit < length (look_reply (run base list) id asked Nothing))
Learns looks base known (stopped id asked) next = looks.looked asked (Err refusal.Stopped) × (next ≡ known) × IsOk (look base asked)
Learns looks base known (by_recall id after list) next =
    looks.recalled after (Ok (recalled_of base list (asked_after base list after))) × (is_remembered base list (asked_after base list after) ≡ true)
    × IsPrefixOf known (logged_actions list) × (next ≡ logged_actions list)
Learns looks base known (forgotten id after list) next =
    looks.recalled after (Err refusal.Forgotten) × (is_remembered base list (asked_after base list after) ≡ false)
    × IsPrefixOf known (logged_actions list) × (next ≡ known)
Learns looks base known (recall_stopped id after) next = looks.recalled after (Err refusal.Stopped) × (next ≡ known)
Learns looks base known (bad_line id refusal) next = next ≡ known
Learns looks base known (unasked heard) next = IsPrefixOf known next × IsPrefixOf heard.list next

-- an action is answered by the receipt of its request
abbrev pub IsByItsReceipt : LineAnswer → Type 0
IsByItsReceipt (by_receipt request heard) = IsAnsweredBy request heard
IsByItsReceipt _ = Unit {0}

abbrev pub LearnsAll : Looks → Condensed → List Action → List LineAnswer → List Action → Type 0
LearnsAll looks base known [] later = later ≡ known
LearnsAll looks base known (m ∷ ms) later = (next : List Action) × (Learns looks base known m next × LearnsAll looks base next ms later)

-- how many growths of the answer's list were refused: one more if a query was refused as out of memory
abbrev pub refused_next : Condensed → ℕ → LineAnswer → ℕ
refused_next base n (look_refused id asked list hindrance) = refused_by (run base list) n (ask.Look asked) hindrance
refused_next base n _ = n

abbrev pub refused_over : Condensed → ℕ → List LineAnswer → ℕ
refused_over base n [] = n
refused_over base n (m ∷ ms) = refused_over base (refused_next base n m) ms

-- the state of one slot: what came and isn't taken, the unanswered actions, the replies to write, how many
-- growths were refused, and what the slot knows. Also what the wire has given and will give, what was written
-- to it, and all that was sent and received
pub record SlotState : Type 0 where
  pub held : Untaken
  pub waiting : List Unanswered
  pub left : List ℕ
  pub refused : ℕ
  pub known : List Action
  pub input : WireInput
  pub written : List ℕ
  pub sent : List Want
  pub heard : List Heard

-- the slot's unanswered requests are this connection's
abbrev pub IsOwn : SlotState → Type 0
IsOwn s = length s.sent ≡ length s.heard + length s.waiting

-- some turns, with these looks: bytes are read, lines are taken, replies are written. The lines that waited and those that are
-- taken are the ones that are answered and those that wait, in this order. What was to be written and the replies to the answered
-- lines are what is written and what is still to be written. What isn't sent and not received and doesn't wait stays the same in
-- number, except for receipts that answer no line. At least `least` bytes, lines and receipts were processed
pub record IsTurn (looks : Looks) (base : Condensed) (least : ℕ) (a b : SlotState) : Type 0 where
  pub got : List ℕ
  pub wrote : List ℕ
  pub taken : List Line
  pub met : List LineAnswer
  pub read : ReadsGive a.input b.input got
  pub lines : lines_in a.held ++ lines_from (open_in a.held) got ≡ taken ++ lines_in b.held
  pub open_line : open_in b.held ≡ held_behind (open_in a.held) got
  pub order : map waiting_kind a.waiting ++ map line_kind taken ≡ flat_map kinds met ++ map waiting_kind b.waiting
  pub text : a.left ++ flat_map (answer_text base) met ≡ wrote ++ b.left
  pub written : b.written ≡ a.written ++ wrote
  pub sent : b.sent ≡ a.sent ++ flat_map wants taken
  pub heard : b.heard ≡ a.heard ++ flat_map heards met
  pub learnt : LearnsAll looks base a.known met b.known
  pub refused : b.refused ≡ refused_over base a.refused met
  pub balance : length b.sent + (length a.heard + length a.waiting) + length (flat_map unasked_receipts met) ≡ length a.sent + (length b.heard + length b.waiting)
  pub moved : least ≤ length got + length wrote + length taken + length (flat_map heards met)
