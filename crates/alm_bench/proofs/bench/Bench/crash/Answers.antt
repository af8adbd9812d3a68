use Rattle.std.proofs.Common.{sym, subst, refl}
use Rattle.alm_pipeline.specs.World.{closed_world}
use Rattle.alm_bench.specs.Stands.{IsSetup}
use Rattle.alm_bench.specs.declared.setup.Setup as T
use Rattle.alm_bench.proofs.Carried.{crash_paced, honest_as, still, there}
use Rattle.alm_bench.proofs.bench.Bench.crash.Goals as goal

pub returns-in-Open-clause-stands : goal.returns-in-Open-clause-stands
returns-in-Open-clause-stands g c = λ w m.
    let is = subst (λ (s : T.Setup _ _ _ _). IsSetup w s) (sym c.in-Open.ensures.setup) m in
    let honest = c.into_device.ensures.honest.0 is.1 in
    subst (λ (s : T.Setup _ _ _ _). IsSetup (closed_world w) s) (sym c.put.ensures.setup)
    (refl, c.crashed-disk.ensures.honest.0 honest, λ image left. c.into_device.ensures.headline is.1 w is.0.fits image (c.crashed-disk.ensures.no_new_image honest image left))

pub returns-in-Open-clause-there : goal.returns-in-Open-clause-there
returns-in-Open-clause-there g c = λ h. there _ _ (sym c.put.ensures.setup) tt

pub returns-in-Shut-clause-there : goal.returns-in-Shut-clause-there
returns-in-Shut-clause-there g c = λ h. there _ _ (sym c.put-in-Shut.ensures.setup) tt

pub returns-in-Gone-clause-there : goal.returns-in-Gone-clause-there
returns-in-Gone-clause-there g c = λ h. absurd (there _ _ (sym c.in-Gone.ensures.setup) h)

pub returns-in-Open-clause-paces : goal.returns-in-Open-clause-paces
returns-in-Open-clause-paces g c = λ w more m e. crash_paced w c.args.bytes.now more _ _ (sym c.put.ensures.setup)

pub returns-in-Shut-clause-paces : goal.returns-in-Shut-clause-paces
returns-in-Shut-clause-paces g c = λ w more m e. crash_paced w c.args.bytes.now more _ _ (sym c.put-in-Shut.ensures.setup)

pub returns-in-Gone-clause-paces : goal.returns-in-Gone-clause-paces
returns-in-Gone-clause-paces g c = λ w more m e. absurd (still w _ _ (sym c.in-Gone.ensures.setup) m)

pub returns-in-Open-clause-honest : goal.returns-in-Open-clause-honest
returns-in-Open-clause-honest g c = λ h. honest_as _ _ c.in-Open.ensures.setup (c.into_device.ensures.honest.1 (c.crashed-disk.ensures.honest.1 (honest_as _ _ c.put.ensures.setup h)))

pub returns-in-Shut-clause-honest : goal.returns-in-Shut-clause-honest
returns-in-Shut-clause-honest g c = λ h. honest_as _ _ c.in-Shut.ensures.setup (c.crashed-disk-in-Shut.ensures.honest.1 (honest_as _ _ c.put-in-Shut.ensures.setup h))

pub returns-in-Gone-clause-honest : goal.returns-in-Gone-clause-honest
returns-in-Gone-clause-honest g c = λ h. absurd (c.take.ensures.gone h)
