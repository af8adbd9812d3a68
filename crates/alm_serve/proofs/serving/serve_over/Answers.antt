use Rattle.std.proofs.Common.{◌∙◌, map, subst, sym}
use Rattle.alm_serve.specs.Runs.{AreAllSlots}
use Rattle.alm_serve.specs.declared.slot_port.SlotPort.{SlotPort}
use Rattle.alm_serve.proofs.Stores.{runs_by, writes_by}
use Rattle.alm_serve.proofs.serving.serve_over.Goals as goal

all_slots : (g : _) (c : goal.After-of g) → AreAllSlots (map (λ (p : SlotPort _ _). p.slot) c.in-Ok-open.ports.ports.items)
all_slots g c = subst AreAllSlots (sym (c.in-Ok-open.ensures.ports ∙ c.as_slice.ensures.value)) c.in-Ok.ensures.order

pub returns-clause-ends : goal.returns-clause-ends
returns-clause-ends g c =
    let k = g.K.Store in
    let d = g.K.Device.Disk in
    let e = c.of.ensures in
    let spent = subst (λ back. d.honest (k.disk back) → k.exhausted back → k.spent (d.state (k.disk back))) e.back e.spent in
    rw (e.back, e.cause, e.served) (runs_by k d c.args.store c.in-Ok-open.ports.ports.items (all_slots g c) c.serve_store.result c.serve_store.ensures.serves spent)

pub returns-clause-writes : goal.returns-clause-writes
returns-clause-writes g c =
    let k = g.K.Store in
    let d = g.K.Device.Disk in
    let e = c.of.ensures in
    rw (e.back, e.served) (writes_by k d c.args.store c.in-Ok-open.ports.ports.items (all_slots g c) _ _ _ c.serve_store.result c.serve_store.ensures.serves c.serve_store.ensures.writes)
