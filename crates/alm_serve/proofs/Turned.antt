-- A port that ends its connection, or leaves all as it is.
use Rattle.std.proofs.Common.{◌≡◌, ◌∙◌, List, None, ap, refl}
use Rattle.alm_types.specs.declared.action.Action.{Action}
use Rattle.alm_types.specs.declared.want.Want.{Want}
use Rattle.alm_model.specs.Plant.{Condensed}
use Rattle.alm_session.specs.Sides.{slot_state}
use Rattle.alm_session.specs.Turns.{IsTurn, Looks, SlotState}
use Rattle.alm_session.specs.Unanswered.{Heard}
use Rattle.alm_session.specs.declared.session.Session.{Session}
use Rattle.alm_session.proofs.Drained.{drained_none}
use Rattle.alm_session.proofs.Steps.{still}
use Rattle.alm_serve.specs.Ports.{PortTraffic, side_of, traffic_of}
use Rattle.alm_serve.specs.Service.{Attends, MovesNothing, without_wire}
use Rattle.alm_serve.specs.declared.slot_port.SlotPort.{SlotPort}
use Rattle.alm_serve.specs.declared.connection.Connection.{Connection}
use Rattle.alm_serve.specs.declared.connection.Connection.TheVariants.{Awaited, Open, Ended}

-- no turn at all
none : (looks : Looks) (base : Condensed) (a : SlotState) → IsTurn looks base 0 a a
none looks base a = still base a a refl refl refl refl refl refl refl refl refl refl

untouched : (a : SlotState) → MovesNothing a a
untouched a = record { input = refl; written = refl; sent = refl }

pub kept : (looks : Looks) (base : Condensed) (was : Connection (Unit {0})) (a : SlotState) → Attends looks base was was a a
kept looks base Awaited a = (untouched a, refl, refl, λ opens. absurd (cc opens))
kept looks base (Open wire) a = (none looks base a, λ awaits. cc awaits)
kept looks base Ended a = (untouched a, drained_none base a.known a.heard a.heard refl, λ opens. cc opens, λ awaits. absurd (cc awaits))

ended : (looks : Looks) (base : Condensed) (was : Connection (Unit {0})) (a : SlotState) → Attends looks base was (without_wire was) a a
ended looks base Awaited a = kept looks base Awaited a
ended looks base (Open wire) a = (none looks base a, λ awaits. cc awaits)
ended looks base Ended a = kept looks base Ended a

-- the side of a port that has the same session and the same bytes
pub same_side : {R T : Type 0} (p q : SlotPort R T) (known : List Action) (sent : List Want) (heard : List Heard) → q.service.session ≡ p.service.session → traffic_of q ≡ traffic_of p → side_of q known sent heard ≡ side_of p known sent heard
same_side p q known sent heard session traffic =
    ap (λ (s : Session). slot_state s known (record { came = (traffic_of q).came; coming = None }) (traffic_of q).written sent heard) session
    ∙ ap (λ (t : PortTraffic). slot_state p.service.session known (record { came = t.came; coming = None }) t.written sent heard) traffic

pub turned : (looks : Looks) (base : Condensed) (was now : Connection (Unit {0})) (a b : SlotState) → now ≡ without_wire was → b ≡ a → Attends looks base was now a b
turned looks base was now a b stage same = rw (stage, same) (ended looks base was a)
