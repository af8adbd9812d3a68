use Rattle.std.proofs.Common.{◌≡◌, refl, subst, sym}
use Rattle.alm_disk.specs.Device.{DeviceState}
use Rattle.alm_keeper.specs.AsStore.{StandsFor, IsLastEpoch}
use Rattle.alm_pipeline.specs.World.{closed_world, first}
use Rattle.alm_pipeline.specs.Headline.{Sight, IsRun, device_alone}
use Rattle.alm_bench.specs.Stands.{bench_sight}
use Rattle.alm_bench.proofs.Traces.{safe_by_trace}
use Rattle.alm_bench.proofs.whole.life.Goals as goal

pub returns-in-Ok-clause-run : goal.returns-in-Ok-clause-run
returns-in-Ok-clause-run g c = λ plant all honest.
    let w = closed_world (first plant) in
    let back = c.into_disk.ensures in
    let end = back.honest.1 honest in
    let was = c.closed-bench.ensures.honest.1 (c.run.ensures.honest end) in
    let at = c.closed-bench.ensures.stands was plant all in
    let trace = c.in-Ok.trace in
    let last = bench_sight c.run.new.self in
    let left : last ≡ record { state = g.D.Disk.state c.into_disk.result; failures = g.D.Disk.failures c.into_disk.result; phase = last.phase; refused = last.refused } = (λ i. record { state = sym back.state i; failures = sym back.failures i; phase = last.phase; refused = last.refused }) in
    let from = c.closed-bench.ensures.device in (
      last.phase,
      last.refused,
      subst (λ (d : Sight). IsRun StandsFor IsLastEpoch w (device_alone (g.D.Disk.state c.args.disk) (g.D.Disk.failures c.args.disk) 0) c.args.steps.now trace.items d) left
          (subst (λ (d : Sight). IsRun StandsFor IsLastEpoch w d c.args.steps.now trace.items last) from (c.in-Ok.ensures.run end w at).run),
    )

pub returns-in-Ok-clause-told : goal.returns-in-Ok-clause-told
returns-in-Ok-clause-told g c = λ plant all honest.
    let run = returns-in-Ok-clause-run g c plant all honest in
    let at : DeviceState = g.D.Disk.state c.into_disk.result in
    safe_by_trace StandsFor IsLastEpoch (closed_world (first plant)) _ (record { state = at; failures = g.D.Disk.failures c.into_disk.result; phase = run.0; refused = run.1 }) c.args.steps.now c.in-Ok.trace.items run.2 (λ slot. refl)

pub returns-in-Ok-clause-paces : goal.returns-in-Ok-clause-paces
returns-in-Ok-clause-paces g c = λ plant all honest.
    let end = c.into_disk.ensures.honest.1 honest in
    let was = c.closed-bench.ensures.honest.1 (c.run.ensures.honest end) in
    let paced = (c.in-Ok.ensures.run end (closed_world (first plant)) (c.closed-bench.ensures.stands was plant all)).paces 0 (c.closed-bench.ensures.paced plant) in
    (paced.0, paced.1)

pub returns-in-Ok-clause-honest : goal.returns-in-Ok-clause-honest
returns-in-Ok-clause-honest g c = λ honest. c.closed-bench.ensures.honest.1 (c.run.ensures.honest (c.into_disk.ensures.honest.1 honest))
