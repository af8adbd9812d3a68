-- A port in a step of its service.
use Rattle.std.proofs.Common.{◌≡◌, ◌≢◌, ℕ, ◌≤◌, List, None, length, inl, inr, refl, sym, subst, arith}
use Rattle.std.proofs.lemmas.List.{length-map}
use Rattle.alm_types.specs.declared.action.Action.{Action}
use Rattle.alm_model.specs.Plant.{Condensed}
use Rattle.alm_rings.specs.declared.console.Console.{Console}
use Rattle.alm_rings.specs.declared.told.Told.{Ghosts}
use Rattle.alm_rings.specs.Ends.{sent_of, received_of}
use Rattle.alm_session.specs.Draining.{DropsReceipts}
use Rattle.alm_session.specs.Sides.{Turns, heard_by, heard_of, least_of, slot_state}
use Rattle.alm_session.specs.Turns.{IsTurn, Looks, SlotState}
use Rattle.alm_session.specs.declared.session.Session.{Session}
use Rattle.alm_session.specs.declared.turn.Turn.{Turn}
use Rattle.alm_session.specs.declared.turn.Turn.TheVariants as turn
use Rattle.alm_serve.specs.Ports.{traffic_with}
use Rattle.alm_serve.specs.Service.{Attends, ServesClients, Settles, TurnServes, by_wire, stage}
use Rattle.alm_serve.specs.StreamWires.{wire_counts, wire_input}
use Rattle.alm_serve.specs.declared.connection.Connection.{Connection}
use Rattle.alm_serve.specs.declared.connection.Connection.TheVariants.{Awaited, Open, Ended}
use Rattle.alm_serve.specs.declared.served.Served.{Served}
use Rattle.alm_serve.specs.declared.served.Served.TheVariants as served
use Rattle.alm_serve.specs.declared.stream_wire.StreamWire.{StreamWire}
use Rattle.alm_serve.specs.declared.traffic.Traffic.{Traffic}

-- at least nothing was processed
any_least : {looks : Looks} {base : Condensed} {n : ℕ} {a b : SlotState} → IsTurn looks base n a b → IsTurn looks base 0 a b
any_least p = record {
  got = p.got;
  wrote = p.wrote;
  taken = p.taken;
  met = p.met;
  read = p.read;
  lines = p.lines;
  open_line = p.open_line;
  order = p.order;
  text = p.text;
  written = p.written;
  sent = p.sent;
  heard = p.heard;
  learnt = p.learnt;
  refused = p.refused;
  balance = p.balance;
  moved = omega arith;
}

module _ {S T : Type 0} {g : Ghosts T} (looks : Looks) (base : Condensed) (session later : Session) (knew knows : List Action) (before after : Console T g) where
  -- the slot's side, by its connection and the bytes that its port keeps
  abbrev old_side : Connection (StreamWire S) → Traffic → SlotState
  old_side connection kept = slot_state session knew (record { came = (traffic_with connection kept).came; coming = None }) (traffic_with connection kept).written (sent_of before) (heard_by before)

  abbrev new_side : Connection (StreamWire S) → Traffic → SlotState
  new_side connection kept = slot_state later knows (record { came = (traffic_with connection kept).came; coming = None }) (traffic_with connection kept).written (sent_of after) (heard_by after)

  -- a turn of an open connection's session, and more of it
  abbrev Turned : (StreamWire S → Turn → StreamWire S → Type 0) → StreamWire S → Served (StreamWire S) → Connection (StreamWire S) → Type 0
  Turned More wire result next =
      (turn : Turn) × ((now : StreamWire S) × TurnServes turn now result next
      × IsTurn looks base (least_of turn) (slot_state session knew (wire_input wire) wire.traffic.written.bytes (sent_of before) (heard_by before)) (slot_state later knows (wire_input now) now.traffic.written.bytes (sent_of after) (heard_by after)) × More wire turn now)

  -- the receipts of one that has ended
  abbrev Dropped : Served (StreamWire S) → Connection (StreamWire S) → Type 0
  Dropped result next = Settles result next after × (later ≡ session) × DropsReceipts base knew knows before after

  -- the port keeps the bytes of a wire that was closed, else what it kept before
  abbrev Keeps : Served (StreamWire S) → Traffic → Traffic → Type 0
  Keeps (served.Closed wire) kept left = left ≡ wire.traffic
  Keeps other kept left = left ≡ kept

  opened : (More : StreamWire S → Turn → StreamWire S → Type 0) (wire : StreamWire S) (next : Connection (StreamWire S)) (result : Served (StreamWire S)) (kept left : Traffic) → Turned More wire result next → Keeps result kept left
      → Attends looks base (Open tt) (stage next) (old_side (Open wire) kept) (new_side next left)
  opened More wire next result kept left (turn.Went, (now, serves, went, more)) keeps =
      subst (λ (n : Connection (StreamWire S)). Attends looks base (Open tt) (stage n) (old_side (Open wire) kept) (new_side n left)) (sym serves.1) (any_least went, λ awaits. cc awaits)
  opened More wire next result kept left (turn.Idle, (now, serves, went, more)) keeps =
      subst (λ (n : Connection (StreamWire S)). Attends looks base (Open tt) (stage n) (old_side (Open wire) kept) (new_side n left)) (sym serves.1) (went, λ awaits. cc awaits)
  opened More wire next result kept left (turn.Ended, (now, serves, went, more)) keeps =
      subst (λ (n : Connection (StreamWire S)). Attends looks base (Open tt) (stage n) (old_side (Open wire) kept) (new_side n left)) (sym serves.1)
      (subst (λ (t : Traffic). Attends looks base (Open tt) Ended (old_side (Open wire) kept) (new_side Ended t)) (sym (subst (λ (r : Served (StreamWire S)). Keeps r kept left) serves.0 keeps)) (went, λ awaits. cc awaits))
  opened More wire next result kept left (turn.Fault, (now, serves, went, more)) keeps =
      subst (λ (n : Connection (StreamWire S)). Attends looks base (Open tt) (stage n) (old_side (Open wire) kept) (new_side n left)) (sym serves.1)
      (subst (λ (t : Traffic). Attends looks base (Open tt) Ended (old_side (Open wire) kept) (new_side Ended t)) (sym (subst (λ (r : Served (StreamWire S)). Keeps r kept left) serves.0 keeps)) (went, λ awaits. cc awaits))

  ended : (next : Connection (StreamWire S)) (result : Served (StreamWire S)) (kept left : Traffic) → Dropped result next → Keeps result kept left
      → Attends looks base Ended (stage next) (old_side Ended kept) (new_side next left)
  ended next result kept left (inl (is, now, all), same, (sent, drained, more)) keeps =
      let stays : left ≡ kept = subst (λ (r : Served (StreamWire S)). Keeps r kept left) is keeps in
      subst (λ (n : Connection (StreamWire S)). Attends looks base Ended (stage n) (old_side Ended kept) (new_side n left)) (sym now)
      (subst (λ (t : Traffic). Attends looks base Ended Awaited (old_side Ended kept) (new_side Awaited t)) (sym stays)
      (record { input = refl; written = refl; sent = sent }, drained, λ opens. cc opens, λ awaits. subst (λ (n : ℕ). length (sent_of after) ≤ n) (sym (length-map (received_of after) heard_of)) all))
  ended next result kept left (inr (is, now, some), same, (sent, drained, more)) keeps =
      let stays : left ≡ kept = subst (λ (r : Served (StreamWire S)). Keeps r kept left) is keeps in
      subst (λ (n : Connection (StreamWire S)). Attends looks base Ended (stage n) (old_side Ended kept) (new_side n left)) (sym now)
      (subst (λ (t : Traffic). Attends looks base Ended Ended (old_side Ended kept) (new_side Ended t)) (sym stays)
      (record { input = refl; written = refl; sent = sent }, drained, λ opens. cc opens, λ awaits. absurd (cc awaits)))

  pub stepped : {More : StreamWire S → Turn → StreamWire S → Type 0} (was next : Connection (StreamWire S)) (result : Served (StreamWire S)) (kept left : Traffic) → was ≢ Awaited → ((wire : StreamWire S) → was ≡ Open wire → Turned More wire result next) → (was ≡ Ended → Dropped result next)
      → Keeps result kept left → Attends looks base (stage was) (stage next) (old_side was kept) (new_side next left)
  stepped {More} Awaited next result kept left other turns drops keeps = absurd (other refl)
  stepped {More} (Open wire) next result kept left other turns drops keeps = opened More wire next result kept left (turns wire refl) keeps
  stepped {More} Ended next result kept left other turns drops keeps = ended next result kept left (drops refl) keeps

  -- what a turn is that did nothing
  abbrev Counted : StreamWire S → Turn → StreamWire S → Type 0
  Counted wire turn now = Turns turn later before after (wire_counts wire) (wire_counts now) None

  served_open : (wire : StreamWire S) (next : Connection (StreamWire S)) (result : Served (StreamWire S)) (kept left : Traffic) (n m : ℕ) → Turned Counted wire result next
      → ServesClients looks base (Open (wire_counts wire)) (by_wire wire_counts next) n m later before after (old_side (Open wire) kept) (new_side next left)
  served_open wire next result kept left n m (turn.Went, (now, serves, went, more)) =
      subst (λ (c : Connection (StreamWire S)). ServesClients looks base (Open (wire_counts wire)) (by_wire wire_counts c) n m later before after (old_side (Open wire) kept) (new_side c left)) (sym serves.1) (inl went)
  served_open wire next result kept left n m (turn.Idle, (now, serves, went, more)) =
      subst (λ (c : Connection (StreamWire S)). ServesClients looks base (Open (wire_counts wire)) (by_wire wire_counts c) n m later before after (old_side (Open wire) kept) (new_side c left)) (sym serves.1) (inr more)
  served_open wire next result kept left n m (turn.Ended, (now, serves, went, more)) =
      subst (λ (c : Connection (StreamWire S)). ServesClients looks base (Open (wire_counts wire)) (by_wire wire_counts c) n m later before after (old_side (Open wire) kept) (new_side c left)) (sym serves.1) tt
  served_open wire next result kept left n m (turn.Fault, (now, serves, went, more)) =
      subst (λ (c : Connection (StreamWire S)). ServesClients looks base (Open (wire_counts wire)) (by_wire wire_counts c) n m later before after (old_side (Open wire) kept) (new_side c left)) (sym serves.1) tt

  served_ended : (next : Connection (StreamWire S)) (result : Served (StreamWire S)) (kept left : Traffic) (n m : ℕ) → Dropped result next
      → ServesClients looks base Ended (by_wire wire_counts next) n m later before after (old_side Ended kept) (new_side next left)
  served_ended next result kept left n m (inl (is, now, all), same, (sent, drained, more)) =
      subst (λ (c : Connection (StreamWire S)). ServesClients looks base Ended (by_wire wire_counts c) n m later before after (old_side Ended kept) (new_side c left)) (sym now) tt
  served_ended next result kept left n m (inr (is, now, some), same, (sent, drained, more)) =
      subst (λ (c : Connection (StreamWire S)). ServesClients looks base Ended (by_wire wire_counts c) n m later before after (old_side Ended kept) (new_side c left)) (sym now) more

  -- a step of a service serves
  pub served_in : (was next : Connection (StreamWire S)) (result : Served (StreamWire S)) (kept left : Traffic) (n m : ℕ) → was ≢ Awaited → ((wire : StreamWire S) → was ≡ Open wire → Turned Counted wire result next)
      → (was ≡ Ended → Dropped result next) → ServesClients looks base (by_wire wire_counts was) (by_wire wire_counts next) n m later before after (old_side was kept) (new_side next left)
  served_in Awaited next result kept left n m other turns drops = absurd (other refl)
  served_in (Open wire) next result kept left n m other turns drops = served_open wire next result kept left n m (turns wire refl)
  served_in Ended next result kept left n m other turns drops = served_ended next result kept left n m (drops refl)
