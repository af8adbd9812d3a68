use Rattle.std.proofs.Common.{inr, refl, rules}
use Rattle.alm_rings.specs.Ends.{sent_of}
use Rattle.alm_session.specs.Sides.{heard_by}
use Rattle.alm_serve.proofs.Stepped.{served_in, stepped}
use Rattle.alm_serve.proofs.Turned.{same_side, turned}
use Rattle.alm_serve.specs.declared.served.Served.TheVariants as served
use Rattle.alm_serve.proofs.slot_port.SlotPort.step.Goals as goal

pub returns-then-is_stuck-clause-attends : goal.returns-then-is_stuck-clause-attends
returns-then-is_stuck-clause-attends g c =
    turned _ _ _ _ _ _ c.turn_away.ensures.stage
    (same_side c.args.self.now c.turn_away.new.self (g.L.Look.knows c.args.look.now) (sent_of c.args.console.now) (heard_by c.args.console.now) c.turn_away.ensures.session c.turn_away.ensures.traffic)

pub returns-in-Went-clause-attends : goal.returns-in-Went-clause-attends
returns-in-Went-clause-attends g c =
    let old = c.args.self.now in
    let new = c.step.new in
    stepped _ _ old.service.session new.self.session (g.L.Look.knows c.args.look.now) (g.L.Look.knows new.look) c.args.console.now new.console
    old.service.connection new.self.connection served.Went old.traffic old.traffic (λ awaits. cc (c.if-is_awaited.ensures.1 awaits))
    c.in-Went.ensures.open c.in-Went.ensures.ended refl

pub returns-in-Idle-clause-attends : goal.returns-in-Idle-clause-attends
returns-in-Idle-clause-attends g c =
    let old = c.args.self.now in
    let new = c.step.new in
    stepped _ _ old.service.session new.self.session (g.L.Look.knows c.args.look.now) (g.L.Look.knows new.look) c.args.console.now new.console
    old.service.connection new.self.connection served.Idle old.traffic old.traffic (λ awaits. cc (c.if-is_awaited.ensures.1 awaits))
    c.in-Idle.ensures.open c.in-Idle.ensures.ended refl

pub returns-in-Closed-clause-attends : goal.returns-in-Closed-clause-attends
returns-in-Closed-clause-attends g c =
    let old = c.args.self.now in
    let new = c.step.new in
    stepped _ _ old.service.session new.self.session (g.L.Look.knows c.args.look.now) (g.L.Look.knows new.look) c.args.console.now new.console
    old.service.connection new.self.connection (served.Closed c.in-Closed.wire) old.traffic _ (λ awaits. cc (c.if-is_awaited.ensures.1 awaits))
    c.in-Closed.ensures.open c.in-Closed.ensures.ended (search rules)

pub returns-in-Over-clause-attends : goal.returns-in-Over-clause-attends
returns-in-Over-clause-attends g c =
    let old = c.args.self.now in
    let new = c.step.new in
    stepped _ _ old.service.session new.self.session (g.L.Look.knows c.args.look.now) (g.L.Look.knows new.look) c.args.console.now new.console
    old.service.connection new.self.connection served.Over old.traffic old.traffic (λ awaits. cc (c.if-is_awaited.ensures.1 awaits))
    c.in-Over.ensures.open c.in-Over.ensures.ended refl

pub returns-in-Went-clause-serves : goal.returns-in-Went-clause-serves
returns-in-Went-clause-serves g c =
    let old = c.args.self.now in
    let new = c.step.new in
    inr (served_in _ _ old.service.session new.self.session (g.L.Look.knows c.args.look.now) (g.L.Look.knows new.look) c.args.console.now new.console
    old.service.connection new.self.connection served.Went old.traffic old.traffic old.listener.nobody old.listener.nobody (λ awaits. cc (c.if-is_awaited.ensures.1 awaits))
    c.in-Went.ensures.open c.in-Went.ensures.ended)

pub returns-in-Idle-clause-serves : goal.returns-in-Idle-clause-serves
returns-in-Idle-clause-serves g c =
    let old = c.args.self.now in
    let new = c.step.new in
    inr (served_in _ _ old.service.session new.self.session (g.L.Look.knows c.args.look.now) (g.L.Look.knows new.look) c.args.console.now new.console
    old.service.connection new.self.connection served.Idle old.traffic old.traffic old.listener.nobody old.listener.nobody (λ awaits. cc (c.if-is_awaited.ensures.1 awaits))
    c.in-Idle.ensures.open c.in-Idle.ensures.ended)

pub returns-in-Closed-clause-serves : goal.returns-in-Closed-clause-serves
returns-in-Closed-clause-serves g c =
    let old = c.args.self.now in
    let new = c.step.new in
    inr (served_in _ _ old.service.session new.self.session (g.L.Look.knows c.args.look.now) (g.L.Look.knows new.look) c.args.console.now new.console
    old.service.connection new.self.connection (served.Closed c.in-Closed.wire) old.traffic _ old.listener.nobody old.listener.nobody (λ awaits. cc (c.if-is_awaited.ensures.1 awaits))
    c.in-Closed.ensures.open c.in-Closed.ensures.ended)

pub returns-in-Over-clause-serves : goal.returns-in-Over-clause-serves
returns-in-Over-clause-serves g c =
    let old = c.args.self.now in
    let new = c.step.new in
    inr (served_in _ _ old.service.session new.self.session (g.L.Look.knows c.args.look.now) (g.L.Look.knows new.look) c.args.console.now new.console
    old.service.connection new.self.connection served.Over old.traffic old.traffic old.listener.nobody old.listener.nobody (λ awaits. cc (c.if-is_awaited.ensures.1 awaits))
    c.in-Over.ensures.open c.in-Over.ensures.ended)
