use Rattle.std.proofs.Common.{◌∙◌, sym, subst}
use Rattle.alm_keeper.specs.AsStore.{IsLastEpoch, StandsFor}
use Rattle.alm_serve.specs.Runs.{IsOpened, RunsBy, RunsWhole}
use Rattle.alm_serve.proofs.Runs.{ends_of, writes_map}
use Rattle.alm_serve.proofs.serving.serve_device.Goals as goal

pub returns-in-Ok-clause-ends : goal.returns-in-Ok-clause-ends
returns-in-Ok-clause-ends g c =
    let d = g.D.Disk in
    let k = c.in-Ok.keeper in
    let open' = c.in-Ok.ensures in
    let end = c.serve_over-end.result in
    let o : IsOpened d StandsFor c.args.disk = record { opened = k.disk; base = k.stored.plant; is = open'.opened } in
    ends_of d StandsFor IsLastEpoch c.args.disk c.into_device.result o end.cause end.served
    (subst (λ back. RunsBy d StandsFor IsLastEpoch k.stored.plant k.disk back end.cause end.served) (sym c.into_device.ensures) c.serve_over-end.ensures.ends)

pub returns-in-Ok-clause-writes : goal.returns-in-Ok-clause-writes
returns-in-Ok-clause-writes g c =
    let d = g.D.Disk in
    let k = c.in-Ok.keeper in
    let open' = c.in-Ok.ensures in
    let end = c.serve_over-end.result in
    let o : IsOpened d StandsFor c.args.disk = record { opened = k.disk; base = k.stored.plant; is = open'.opened } in
    writes_map _ _ _ _ _ _ _ end.served (λ same. (o, c.into_device.ensures ∙ same)) (λ count whole. (o, subst (λ back. RunsWhole d StandsFor k.stored.plant k.disk back count) (sym c.into_device.ensures) whole)) c.serve_over-end.ensures.writes
