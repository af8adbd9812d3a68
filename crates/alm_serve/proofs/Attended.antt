-- What ports did in a run, by their accounts.
use Rattle.std.proofs.Common.{◌≡◌, suc, List, [], ◌∷◌, length, map, refl, ap, sym, subst, arith}
use Rattle.alm_types.specs.declared.action.Action.{Action}
use Rattle.alm_types.specs.declared.want.Want.{Want}
use Rattle.alm_model.specs.Plant.{Condensed}
use Rattle.alm_rings.specs.declared.console.Console.{Console}
use Rattle.alm_rings.specs.declared.receipt.Receipt.{Receipt}
use Rattle.alm_rings.specs.declared.told.Told.{Ghosts}
use Rattle.alm_rings.specs.Ends.{sent_of, received_of}
use Rattle.alm_session.specs.Sides.{heard_by, heard_of}
use Rattle.alm_session.specs.Turns.{Learns, LearnsAll, LineAnswer, Looks, SlotState, bad_line, by_look, by_recall, by_receipt, forgotten, look_refused, no_room, recall_stopped, stopped, unasked}
use Rattle.alm_session.specs.Unanswered.{Heard}
use Rattle.alm_session.proofs.Steps.{with_looks}
use Rattle.alm_threads.specs.Slots.{AreNewConsoles}
use Rattle.alm_threads.specs.Sources.{Accounts, AllAccount, SourceState, TookTurns, reported_of, source_state, states_of}
use Rattle.alm_serve.proofs.Talks.{talks_by}
use Rattle.alm_serve.specs.Ports.{AllAttended, AllTalked, AreUnused, Attended, AttendsAll, IsUnused, PortState, PortTraffic, Talked, any_looks, port_state, side_of}
use Rattle.alm_serve.specs.Service.{Attends, as_heard, stage}
use Rattle.alm_serve.specs.declared.connection.Connection.{Connection}
use Rattle.alm_serve.specs.declared.connection.Connection.TheVariants.{Awaited, Ended, Open}
use Rattle.alm_serve.specs.declared.slot_port.SlotPort.{SlotPort}

module _ {T : Type 0} {g : Ghosts T} where
  -- receipts as a session has them
  pub heard_same : (rs : List (Receipt T g)) → map as_heard (map reported_of rs) ≡ map heard_of rs
  heard_same [] = refl
  heard_same (r ∷ rs) = ap (λ (l : List Heard). heard_of r ∷ l) (heard_same rs)

module _ {R T : Type 0} {g : Ghosts T} where
  -- a turn of a session, as its port's account has it
  pub attends_as : (looks : Looks) (base : Condensed) (was now : Connection (Unit {0})) (p p' : SlotPort R T) (knew knows : List Action) (sent sent' : List Want) (rs rs' : List (Receipt T g))
      → Attends looks base was now (side_of p knew sent (map heard_of rs)) (side_of p' knows sent' (map heard_of rs'))
      → Attends looks base was now (side_of p knew sent (map as_heard (map reported_of rs))) (side_of p' knows sent' (map as_heard (map reported_of rs')))
  attends_as looks base was now p p' knew knows sent sent' rs rs' turn =
      subst (λ (h : List Heard). Attends looks base was now (side_of p knew sent h) (side_of p' knows sent' (map as_heard (map reported_of rs')))) (sym (heard_same rs))
      (subst (λ (h : List Heard). Attends looks base was now (side_of p knew sent (map heard_of rs)) (side_of p' knows sent' h)) (sym (heard_same rs')) turn)

-- what is known by some looks is known by any
learns_any : (looks : Looks) (base : Condensed) (known : List Action) (m : LineAnswer) (next : List Action) → Learns looks base known m next → Learns any_looks base known m next
learns_any looks base known (by_receipt w heard) next h = h
learns_any looks base known (by_look id asked list) next h = (tt, h.1, h.2)
learns_any looks base known (look_refused id asked list hindrance) next h = ((h.0.0, tt, h.0.2), h.1, h.2)
learns_any looks base known (no_room id asked list) next h = (tt, h.1, h.2, h.3)
learns_any looks base known (stopped id asked) next h = (tt, h.1, h.2)
learns_any looks base known (by_recall id after list) next h = (tt, h.1, h.2, h.3)
learns_any looks base known (forgotten id after list) next h = (tt, h.1, h.2, h.3)
learns_any looks base known (recall_stopped id after) next h = (tt, h.1)
learns_any looks base known (bad_line id refusal) next h = h
learns_any looks base known (unasked heard) next h = h

all_any : (looks : Looks) (base : Condensed) (known : List Action) (met : List LineAnswer) (later : List Action) → LearnsAll looks base known met later → LearnsAll any_looks base known met later
all_any looks base known [] later h = h
all_any looks base known (m ∷ met) later (next, (k, ks)) = (next, (learns_any looks base known m next k, all_any looks base next met later ks))

-- a port that attended with some looks did so with any
pub attends_any : (looks : Looks) (base : Condensed) (was now : Connection (Unit {0})) (a b : SlotState) → Attends looks base was now a b → Attends any_looks base was now a b
attends_any looks base Awaited now a b h = h
attends_any looks base (Open wire) now a b h = (with_looks any_looks h.0 (all_any looks base a.known h.0.met b.known h.0.learnt), h.1)
attends_any looks base Ended now a b h = h

module _ {R T L : Type 0} (base : Condensed) (knows : L → List Action) where
  -- the state of a port, by that of a source
  abbrev pub port_of : SourceState (SlotPort R T) L → PortState
  port_of s = record { connection = stage s.source.service.connection; side = side_of s.source (knows s.look) s.sent (map as_heard s.received) }

  -- a turn is one of the session
  abbrev pub AreTurns : (SourceState (SlotPort R T) L → SourceState (SlotPort R T) L → Type 0) → Type 0
  AreTurns did = (a b : SourceState (SlotPort R T) L) → did a b → Attends any_looks base (port_of a).connection (port_of b).connection (port_of a).side (port_of b).side

  attended : (did : SourceState (SlotPort R T) L → SourceState (SlotPort R T) L → Type 0) → AreTurns did → (from : SourceState (SlotPort R T) L) (before : List (SourceState (SlotPort R T) L)) (to : SourceState (SlotPort R T) L)
      → TookTurns did from before to → AttendsAll base (port_of from) (map port_of before) (port_of to)
  attended did turns from [] to t = ap port_of t
  attended did turns from (last ∷ before) to t = (turns last to t.0, attended did turns from before last t.1)

module _ {R T L : Type 0} {g : Ghosts T} (base : Condensed) (knows : L → List Action) where
  -- a port that began at a new console
  one_attended : (did : SourceState (SlotPort R T) L → SourceState (SlotPort R T) L → Type 0) → AreTurns base knows did → (was now : SlotPort R T) (look : L) (first last : Console T g)
      → sent_of first ≡ [] → received_of first ≡ [] → Accounts did (source_state was look first) now last → Attended base was now last
  one_attended did turns was now look first last sent received one =
      let all = attended base knows did turns (source_state was look first) one.before (source_state now one.look last) one.turns in
      record {
        knew = knows look;
        knows = knows one.look;
        before = map (port_of base knows) one.before;
        turns = subst (λ (xs : List Want). AttendsAll base (port_state was (knows look) xs []) (map (port_of base knows) one.before) (port_state now (knows one.look) (sent_of last) (heard_by last))) sent
            (subst (λ (rs : List (Receipt T g)). AttendsAll base (port_state was (knows look) (sent_of first) (map as_heard (map reported_of rs))) (map (port_of base knows) one.before) (port_state now (knows one.look) (sent_of last) (heard_by last))) received
            (subst (λ (h : List Heard). AttendsAll base (port_of base knows (source_state was look first)) (map (port_of base knows) one.before) (port_state now (knows one.look) (sent_of last) h)) (heard_same (received_of last)) all));
      }

  pub all_attended : (did : SourceState (SlotPort R T) L → SourceState (SlotPort R T) L → Type 0) → AreTurns base knows did → (ports : List (SlotPort R T)) (looks : List L) (consoles : List (Console T g)) (later : List (SlotPort R T)) (closed : List (Console T g))
      → length looks ≡ length ports → length consoles ≡ length ports → AreNewConsoles consoles → AllAccount did (states_of ports looks consoles) later closed → AllAttended base ports later closed
  all_attended did turns [] looks consoles [] [] many few new all = tt
  all_attended did turns [] looks consoles [] (c ∷ closed) many few new all = absurd all
  all_attended did turns [] looks consoles (l ∷ later) closed many few new all = absurd all
  all_attended did turns (p ∷ ports) [] consoles later closed many few new all = absurd (omega (arith, many))
  all_attended did turns (p ∷ ports) (k ∷ looks) [] later closed many few new all = absurd (omega (arith, few))
  all_attended did turns (p ∷ ports) (k ∷ looks) (c ∷ consoles) [] closed many few new all = absurd all
  all_attended did turns (p ∷ ports) (k ∷ looks) (c ∷ consoles) (q ∷ later) [] many few new all = absurd all
  all_attended did turns (p ∷ ports) (k ∷ looks) (c ∷ consoles) (q ∷ later) (d ∷ closed) many few new all = (
    one_attended did turns p q k c d (new 0 c refl).0 (new 0 c refl).1 all.0,
    all_attended did turns ports looks consoles later closed (omega (arith, many)) (omega (arith, few)) (λ j x at. new (suc j) x at) all.1,
  )

-- what ports did that nobody had used
module _ {R T : Type 0} {g : Ghosts T} (base : Condensed) where
  one_talked : (was now : SlotPort R T) (console : Console T g) → IsUnused was → Attended base was now console → Talked base now console
  one_talked was now console unused one =
      let found = talks_by base (port_state was one.knew [] []) one.before (port_state now one.knows (sent_of console) (heard_by console)) (ap stage unused.awaited) (ap (λ (t : PortTraffic). t.came) unused.traffic) (ap (λ (t : PortTraffic). t.written) unused.traffic) refl refl one.turns in
      record { knows = one.knows; talks = found.0; are = found.1 }

  pub all_talked : (ports later : List (SlotPort R T)) (consoles : List (Console T g)) → AreUnused ports → AllAttended base ports later consoles → AllTalked base later consoles
  all_talked [] [] [] unused all = tt
  all_talked [] [] (c ∷ consoles) unused all = absurd all
  all_talked [] (l ∷ later) consoles unused all = absurd all
  all_talked (p ∷ ports) [] consoles unused all = absurd all
  all_talked (p ∷ ports) (l ∷ later) [] unused all = absurd all
  all_talked (p ∷ ports) (l ∷ later) (c ∷ consoles) unused all =
      (one_talked p l c (unused 0 p refl) all.0, all_talked ports later consoles (λ k x at. unused (suc k) x at) all.1)
