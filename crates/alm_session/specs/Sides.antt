-- One slot's side, by its parts.
use Rattle.std.specs.Prelude.{◌≡◌, ℕ, ◌+◌, ◌-◌, ◌^◌, ◌<◌, ◌≤◌, ◌⊎◌, List, [], Option, None, Some, length, map}
use Rattle.std.specs.Io.KnownBytes.{IsAtEnd}
use Rattle.alm_types.specs.declared.action.Action.{Action}
use Rattle.alm_types.specs.declared.want.Want.{Want}
use Rattle.alm_lines.specs.declared.ask.Ask.{Ask}
use Rattle.alm_lines.specs.declared.ask.Ask.TheVariants.{Act}
use Rattle.alm_lines.specs.declared.line.Line.{Line}
use Rattle.alm_types.specs.Sizes.{most_out}
use Rattle.alm_model.specs.Plant.{Condensed}
use Rattle.alm_rings.specs.declared.told.Told.{Ghosts}
use Rattle.alm_rings.specs.declared.console.Console.{Console}
use Rattle.alm_rings.specs.declared.receipt.Receipt.{Receipt}
use Rattle.alm_rings.specs.Ends.{sent_of, received_of, coming_to, room_of}
use Rattle.alm_session.specs.Wires.{Counts, WireInput, blocked_read, blocked_write, failed_call}
use Rattle.alm_session.specs.Turns.{IsTurn, Looks, SlotState}
use Rattle.alm_session.specs.Unanswered.{Heard}
use Rattle.alm_session.specs.declared.session.Session.{Session}
use Rattle.alm_session.specs.declared.turn.Turn.{Turn}
use Rattle.alm_session.specs.declared.turn.Turn.TheVariants.{Went, Idle, Ended, Fault}
use Rattle.alm_session.specs.declared.wire.Wire

module _ {T : Type 0} {g : Ghosts T} where
  abbrev pub heard_of : Receipt T g → Heard
  heard_of r = record { slot = r.slot; serial = r.serial; verdict = r.verdict; number = r.number; opened = g.base_count r.told; list = g.list r.told; logged = g.logged r.told }

  abbrev pub heard_by : Console T g → List Heard
  heard_by console = map heard_of (received_of console)

-- one slot's side, with what the slot knows, the bytes of the wire, and all that was sent and received
abbrev pub slot_state : Session → List Action → WireInput → (written : List ℕ) → List Want → List Heard → SlotState
slot_state s known input written sent heard = record { held = s.intake; waiting = s.waiting.items; left = s.output.left; refused = s.answer.refused; known = known; input = input; written = written; sent = sent; heard = heard }

-- something was done that neither read nor wrote, neither sent nor received: at least `n` steps of a turn, whatever was before
abbrev pub IsTurnWithin : Looks → Condensed → (n : ℕ) → (was now : Session) → (knew knows : List Action) → Type 0
IsTurnWithin looks base n was now knew knows =
    (input : WireInput) (written : List ℕ) (sent : List Want) (heard : List Heard)
    → IsTurn looks base n (slot_state was knew input written sent heard) (slot_state now knows input written sent heard)

module _ {T : Type 0} {g : Ghosts T} where
  -- one slot's side, with all that its console sent and received
  abbrev pub side_at : Session → List Action → WireInput → (written : List ℕ) → Console T g → SlotState
  side_at s known input written console = slot_state s known input written (sent_of console) (heard_by console)

  -- the same over this wire
  abbrev pub side_over : {W : Type 0} → Wire.Ghosts W → Session → List Action → W → Console T g → SlotState
  side_over wire s known over console = side_at s known (wire.input over) (wire.written over) console

  -- something was done at the console that neither read nor wrote, whatever was before
  abbrev pub IsTurnAtConsole : Looks → Condensed → (n : ℕ) → (was now : Session) → (knew knows : List Action) → (before after : Console T g) → Type 0
  IsTurnAtConsole looks base n was now knew knows before after =
      (input : WireInput) (written : List ℕ) → IsTurn looks base n (side_at was knew input written before) (side_at now knows input written after)

-- at least one, if the turn went
abbrev pub least_of : Turn → ℕ
least_of Went = 1
least_of _ = 0

-- no line or byte is left to take up, and none to write
abbrev pub HoldsNothing : Session → Type 0
HoldsNothing s = (s.intake.line ≡ None) × (s.intake.rest ≡ [])

-- the input has ended; each of its lines has its reply, and the replies are written
abbrev pub IsAllWritten : Session → Option (List ℕ) → Type 0
IsAllWritten s coming = HoldsNothing s × (s.waiting.items ≡ []) × (s.output.left ≡ []) × IsAtEnd coming

-- the input has ended, and an action is unanswered
abbrev pub IsEnding : Session → Option (List ℕ) → Type 0
IsEnding s coming = HoldsNothing s × (0 < length s.waiting.items) × IsAtEnd coming

-- what a read comes to
abbrev pub ReadTurns : Turn → Session → Session → Counts → Counts → Option (List ℕ) → Type 0
ReadTurns Went before later old new coming = new ≡ old
ReadTurns Idle before later old new coming = HoldsNothing later × (later.output.left ≡ []) × ((new ≡ blocked_read old) ⊎ ((new ≡ old) × IsEnding later coming))
ReadTurns Ended before later old new coming = (new ≡ old) × IsAllWritten later coming
ReadTurns Fault before later old new coming = new ≡ failed_call old

module _ {T : Type 0} {g : Ghosts T} where
  -- the console's ring knew no receipt
  abbrev pub IsQuiet : Console T g → Type 0
  IsQuiet console = coming_to console ≡ []

  -- the largest number of requests is unanswered, the ring of requests knows no place, or the serials are used up
  abbrev pub MayNotSend : Session → Console T g → Type 0
  MayNotSend s console = (most_out ≤ length s.waiting.items) ⊎ (most_out + length (received_of console) ≤ length (sent_of console)) ⊎ (room_of console ≡ 0) ⊎ (2 ^ 64 - 1 ≤ length (sent_of console))

  -- why a line that is held waits: an action if it may not be sent, all else if an action before it is unanswered
  abbrev pub WaitsFor : Ask → Session → Console T g → Type 0
  WaitsFor (Act want) s console = MayNotSend s console
  WaitsFor ask s console = 0 < length s.waiting.items

  -- the line that is held waits
  abbrev pub IsStuck : Session → Console T g → Type 0
  IsStuck s console = (line : Line) × (s.intake.line ≡ Some line) × WaitsFor line.ask s console

  -- why no step could be done: either a write was blocked, or there is no byte to write and no receipt is known to wait. In the
  -- second case a read was blocked while no line is held, or the held line waits, or the input has ended and an action is
  -- unanswered
  abbrev pub MayIdle : Session → Console T g → Counts → Counts → Option (List ℕ) → Type 0
  MayIdle s console old new coming =
      (s.output.left ≡ []) × (((new ≡ blocked_read old) × HoldsNothing s) ⊎ ((new ≡ old) × (IsStuck s console ⊎ IsEnding s coming)))

  abbrev pub GoOnTurns : Turn → Session → Console T g → Counts → Counts → Option (List ℕ) → Type 0
  GoOnTurns Went s console old new coming = new ≡ old
  GoOnTurns Idle s console old new coming = MayIdle s console old new coming
  GoOnTurns Ended s console old new coming = (new ≡ old) × IsAllWritten s coming
  GoOnTurns Fault s console old new coming = new ≡ failed_call old

  abbrev pub Turns : Turn → Session → Console T g → Console T g → Counts → Counts → Option (List ℕ) → Type 0
  Turns Went s before console old new coming = new ≡ old
  Turns Idle s before console old new coming = (new ≡ blocked_write old) ⊎ (IsQuiet before × MayIdle s console old new coming)
  Turns Ended s before console old new coming = (new ≡ old) × IsAllWritten s coming × IsQuiet before
  Turns Fault s before console old new coming = new ≡ failed_call old
