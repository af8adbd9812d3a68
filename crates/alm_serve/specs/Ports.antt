-- What the port of a slot did in a run.
use Rattle.std.specs.Prelude.{◌≡◌, ℕ, List, [], ◌∷◌, None, Some, map, slice_get}
use Rattle.alm_types.specs.declared.action.Action.{Action}
use Rattle.alm_types.specs.declared.want.Want.{Want}
use Rattle.alm_model.specs.Plant.{Condensed}
use Rattle.alm_rings.specs.declared.console.Console.{Console}
use Rattle.alm_rings.specs.declared.told.Told.{Ghosts}
use Rattle.alm_rings.specs.Ends.{sent_of}
use Rattle.alm_session.specs.Sides.{slot_state, heard_by}
use Rattle.alm_session.specs.Turns.{Looks, SlotState}
use Rattle.alm_session.specs.Unanswered.{Heard}
use Rattle.alm_threads.specs.Sources.{SourceState}
use Rattle.alm_serve.specs.declared.connection.Connection.{Connection}
use Rattle.alm_serve.specs.declared.connection.Connection.TheVariants.{Awaited, Open}
use Rattle.alm_serve.specs.declared.slot_port.SlotPort.{SlotPort}
use Rattle.alm_serve.specs.declared.stream_wire.StreamWire.{StreamWire}
use Rattle.alm_serve.specs.declared.traffic.Traffic.{Traffic}
use Rattle.alm_serve.specs.Service.{Attends, ServesClients, as_heard, by_wire, stage}
use Rattle.alm_serve.specs.StreamWires.{wire_counts}
use Rattle.alm_serve.specs.Talks.{AreTalks, Talk}

-- what came over a slot's connections, one after the other, and what was written to them
pub record PortTraffic : Type 0 where
  pub came : List ℕ
  pub written : List ℕ

abbrev pub no_traffic : PortTraffic
no_traffic = record { came = []; written = [] }

-- a port's connection, and its slot's side
pub record PortState : Type 0 where
  pub connection : Connection (Unit {0})
  pub side : SlotState

-- looks of a slot, whatever they were
abbrev pub any_looks : Looks
any_looks = record { looked = λ asked result. Unit {0}; recalled = λ after result. Unit {0} }

-- turns led from one state to another, and nothing else did. `before` has the state before each turn, the last turn first
abbrev pub AttendsAll : Condensed → (from : PortState) → (before : List PortState) → (to : PortState) → Type 0
AttendsAll base from [] to = to ≡ from
AttendsAll base from (last ∷ before) to = Attends any_looks base last.connection to.connection last.side to.side × AttendsAll base from before last

abbrev pub recorded_in : Traffic → PortTraffic
recorded_in traffic = record { came = traffic.came.bytes; written = traffic.written.bytes }

-- with an open connection its wire has the record of them, else the port
abbrev pub traffic_with : {S : Type 0} → Connection (StreamWire S) → Traffic → PortTraffic
traffic_with (Open wire) kept = recorded_in wire.traffic
traffic_with other kept = recorded_in kept

module _ {R T : Type 0} where
  abbrev pub traffic_of : SlotPort R T → PortTraffic
  traffic_of port = traffic_with port.service.connection port.traffic

  -- a slot's side, with the bytes of its connections
  abbrev pub side_of : SlotPort R T → (known : List Action) (sent : List Want) → List Heard → SlotState
  side_of port known sent heard =
      slot_state port.service.session known (record { came = (traffic_of port).came; coming = None }) (traffic_of port).written sent heard

  abbrev pub port_state : SlotPort R T → (known : List Action) (sent : List Want) → List Heard → PortState
  port_state port known sent heard = record { connection = stage port.service.connection; side = side_of port known sent heard }

  -- nobody is connected at this port, and nobody was
  pub record IsUnused (port : SlotPort R T) : Type 0 where
    pub awaited : port.service.connection ≡ Awaited
    pub traffic : traffic_of port ≡ no_traffic

  -- nobody is connected at any of these ports, and nobody was
  abbrev pub AreUnused : List (SlotPort R T) → Type 0
  AreUnused ports = (k : ℕ) (port : SlotPort R T) → slice_get ports k ≡ Some port → IsUnused port

  -- a port's side, with all that its console sent and received
  abbrev pub port_side : {g : Ghosts T} → SlotPort R T → (known : List Action) → Console T g → SlotState
  port_side port known console = side_of port known (sent_of console) (heard_by console)

  -- a port did in a turn at its console what `Attends` says
  abbrev pub PortAttends : {g : Ghosts T} → Looks → Condensed → (was now : SlotPort R T) → (knew knows : List Action) → (before after : Console T g) → Type 0
  PortAttends looks base was now knew knows before after =
      Attends looks base (stage was.service.connection) (stage now.service.connection) (port_side was knew before) (port_side now knows after)

  -- a port did for its clients what `ServesClients` says
  abbrev pub PortServes : {g : Ghosts T} → Looks → Condensed → (was now : SlotPort R T) → (knew knows : List Action) → (before after : Console T g) → Type 0
  PortServes looks base was now knew knows before after =
      ServesClients looks base (by_wire wire_counts was.service.connection) (by_wire wire_counts now.service.connection) was.listener.nobody now.listener.nobody now.service.session before after (port_side was knew before) (port_side now knows after)

  module _ {g : Ghosts T} (base : Condensed) where
    -- a port has become another. All that was sent and received at its slot's console was so in its turns
    pub record Attended (was now : SlotPort R T) (console : Console T g) : Type 0 where
      pub knew : List Action
      pub knows : List Action
      pub before : List PortState
      pub turns : AttendsAll base (port_state was knew [] []) before (port_state now knows (sent_of console) (heard_by console))

    -- each of these ports has, in the order of their slots
    abbrev pub AllAttended : (ports later : List (SlotPort R T)) → List (Console T g) → Type 0
    AllAttended [] [] [] = Unit {0}
    AllAttended (was ∷ ports) (now ∷ later) (console ∷ consoles) = Attended was now console × AllAttended ports later consoles
    AllAttended ports later consoles = ⊥

    -- all that came to a port's slot and was written to it, sent to its console and received there is that of its connections
    pub record Talked (now : SlotPort R T) (console : Console T g) : Type 0 where
      pub knows : List Action
      pub talks : List Talk
      pub are : AreTalks base talks (side_of now knows (sent_of console) (heard_by console))

    -- each of these slots' is
    abbrev pub AllTalked : (later : List (SlotPort R T)) → List (Console T g) → Type 0
    AllTalked [] [] = Unit {0}
    AllTalked (now ∷ later) (console ∷ consoles) = Talked now console × AllTalked later consoles
    AllTalked later consoles = ⊥

module _ {R T L : Type 0} (base : L → Condensed) (knows : L → List Action) (looks : L → L → Looks) where
  -- a turn of a port by its source's states, for looks of one plant: the port did what `Attends` says
  abbrev pub SourceAttends : (a b : SourceState (SlotPort R T) L) → Type 0
  SourceAttends a b =
      (base b.look ≡ base a.look) × Attends (looks a.look b.look) (base a.look) (stage a.source.service.connection) (stage b.source.service.connection)
      (side_of a.source (knows a.look) a.sent (map as_heard a.received)) (side_of b.source (knows b.look) b.sent (map as_heard b.received))
