-- What a slot's service does in a step.
use Rattle.std.specs.Prelude.{◌≡◌, ◌≢◌, ◌⊎◌, ◌≤◌, ◌<◌, ℕ, List, [], Option, None, Some, length}
use Rattle.alm_types.specs.Counts.{one_more}
use Rattle.alm_types.specs.declared.action.Action.{Action}
use Rattle.alm_model.specs.Plant.{Condensed}
use Rattle.alm_rings.specs.declared.told.Told.{Ghosts}
use Rattle.alm_rings.specs.declared.console.Console.{Console}
use Rattle.alm_rings.specs.Ends.{sent_of, received_of}
use Rattle.alm_session.specs.Draining.{HasReceivedAll, IsDrained}
use Rattle.alm_session.specs.Intakes.{Untaken}
use Rattle.alm_session.specs.Sides.{Turns, least_of, side_over}
use Rattle.alm_session.specs.Turns.{IsTurn, Looks, SlotState}
use Rattle.alm_session.specs.Unanswered.{Heard}
use Rattle.alm_session.specs.Wires.{Counts}
use Rattle.alm_session.specs.declared.session.Session.{Session}
use Rattle.alm_session.specs.declared.unanswered.Unanswered.{Unanswered}
use Rattle.alm_session.specs.declared.turn.Turn.{Turn}
use Rattle.alm_session.specs.declared.turn.Turn.TheVariants as turn
use Rattle.alm_session.specs.declared.wire.Wire
use Rattle.alm_threads.specs.Sources.{Reported}
use Rattle.alm_serve.specs.declared.call_watch.CallWatch.{CallWatch}
use Rattle.alm_serve.specs.declared.connection.Connection.{Connection}
use Rattle.alm_serve.specs.declared.connection.Connection.TheVariants.{Awaited, Open, Ended}
use Rattle.alm_serve.specs.declared.served.Served.{Served}
use Rattle.alm_serve.specs.declared.served.Served.TheVariants as served
use Rattle.alm_serve.specs.declared.slot_service.SlotService.{SlotService}

-- no byte has come, no action waits, and no byte is to be written
abbrev pub IsFresh : Untaken → List Unanswered → List ℕ → Type 0
IsFresh held waiting left = (held ≡ record { line = None; held = []; rest = [] }) × (waiting ≡ []) × (left ≡ [])

-- a receipt as a session has it
abbrev pub as_heard : Reported → Heard
as_heard r = record { slot = r.slot; serial = r.serial; verdict = r.verdict; number = r.number; opened = r.opened; list = r.list; logged = r.logged }

-- a connection, with this of its wire
abbrev pub by_wire : {W X : Type 0} → (W → X) → Connection W → Connection X
by_wire f Awaited = Awaited
by_wire f (Open wire) = Open (f wire)
by_wire f Ended = Ended

module _ {W : Type 0} where
  -- the wire of an open connection
  abbrev pub wire_of : Connection W → Option W
  wire_of (Open wire) = Some wire
  wire_of other = None

  -- a connection, regardless of its wire
  abbrev pub stage : Connection W → Connection (Unit {0})
  stage connection = by_wire (λ _. tt) connection

  -- what a turn of an open connection is to the caller, and what the connection is then, by the wire after the turn
  abbrev pub TurnServes : Turn → W → Served W → Connection W → Type 0
  TurnServes turn.Went now result connection = (result ≡ served.Went) × (connection ≡ Open now)
  TurnServes turn.Idle now result connection = (result ≡ served.Idle) × (connection ≡ Open now)
  TurnServes turn.Ended now result connection = (result ≡ served.Closed now) × (connection ≡ Ended)
  TurnServes turn.Fault now result connection = (result ≡ served.Closed now) × (connection ≡ Ended)

  module _ {T : Type 0} {g : Ghosts T} where
    -- the next connection may begin once no request is unanswered
    abbrev pub Settles : Served W → Connection W → Console T g → Type 0
    Settles result connection console =
        ((result ≡ served.Over) × (connection ≡ Awaited) × (length (sent_of console) ≤ length (received_of console)))
        ⊎ ((result ≡ served.Idle) × (connection ≡ Ended) × (length (received_of console) < length (sent_of console)))

module _ {T : Type 0} {g : Ghosts T} where
  -- if a connection is open, a step is a turn of its session over its wire, and this is its result and the connection after it
  abbrev pub StepsByTurn : {W : Type 0} → Wire.Ghosts W → Looks → Condensed → (was now : SlotService W) → (knew knows : List Action) → (before after : Console T g) → Served W → Type 0
  StepsByTurn {W} w looks base was now knew knows before after result =
      (wire : W) → was.connection ≡ Open wire
      → (turn : Turn) × ((later : W) × TurnServes turn later result now.connection
      × IsTurn looks base (least_of turn) (side_over w was.session knew wire before) (side_over w now.session knows later after)
      × Turns turn now.session before after (w.counts wire) (w.counts later) (w.input later).coming)

-- nothing was read, written or sent
pub record MovesNothing (a b : SlotState) : Type 0 where
  pub input : b.input ≡ a.input
  pub written : b.written ≡ a.written
  pub sent : b.sent ≡ a.sent

-- an open connection has ended
abbrev pub without_wire : Connection (Unit {0}) → Connection (Unit {0})
without_wire (Open wire) = Ended
without_wire other = other

-- what a port does to its slot's side in a turn, by what its connection was and is. Without a connection nothing is read, written,
-- sent, received or learnt, and one that begins is fresh. With an open one it is a turn of the session. What an ended one leaves is
-- received and dropped, nothing is read, written or sent, and the next one is awaited once no request is unanswered
abbrev pub Attends : Looks → Condensed → (was now : Connection (Unit {0})) → (a b : SlotState) → Type 0
Attends looks base Awaited now a b = MovesNothing a b × (b.heard ≡ a.heard) × (b.known ≡ a.known) × (now ≡ Open tt → IsFresh b.held b.waiting b.left)
Attends looks base (Open wire) now a b = IsTurn looks base 0 a b × (now ≢ Awaited)
Attends looks base Ended now a b =
    MovesNothing a b × IsDrained base a.known a.heard b.known b.heard × (now ≢ Open tt) × (now ≡ Awaited → length b.sent ≤ length b.heard)

-- a device call was found to take too long
abbrev pub IsLate : {R : Type 0} → Option (CallWatch R) → Option (CallWatch R) → Type 0
IsLate (Some was) (Some now) = now.late ≡ one_more was.late
IsLate was now = ⊥

module _ {T : Type 0} {g : Ghosts T} (looks : Looks) (base : Condensed) where
  -- what a port did for its clients in a turn after which it is where it was, by its wire's counts and by how often nobody waited.
  -- Without a connection nobody waited for one. An open one was given a turn of its session that went, or that could do nothing.
  -- Of one that has ended no receipt is known to wait, or as many came as a slot may have out
  abbrev pub ServesClients : (was now : Connection Counts) → (nobody later : ℕ) → Session → (before after : Console T g) → (a b : SlotState) → Type 0
  ServesClients Awaited Awaited nobody later session before after a b = later ≡ one_more nobody
  ServesClients (Open old) (Open new) nobody later session before after a b = IsTurn looks base 1 a b ⊎ Turns turn.Idle session before after old new None
  ServesClients Ended Ended nobody later session before after a b = HasReceivedAll before after
  ServesClients was now nobody later session before after a b = Unit {0}
