use Rattle.std.proofs.Common.{◌≡◌, [], arith}
use Rattle.alm_keeper.specs.StoreLaws.{stands_for_one}
use Rattle.alm_pipeline.specs.World.{first}
use Rattle.alm_pipeline.proofs.Paced.{none_few}
use Rattle.alm_bench.proofs.bench.Bench.new.Goals as goal

pub returns-in-Ok-clause-stands : goal.returns-in-Ok-clause-stands
returns-in-Ok-clause-stands g c = λ plant all honest.
    let e = c.in-Ok.ensures in
    let store = c.in-Ok.pipeline.flusher.store in
    let bytes = (g.D.Disk.state store.disk).bytes in
    let is : store.stored.plant ≡ plant = stands_for_one bytes store.stored.plant plant (e.opened.encodes honest) (all bytes (e.opened.image (e.opened.honest honest))) in
    (e.«open» plant [] plant.panel.count is (omega arith), honest)

pub returns-in-Ok-clause-device : goal.returns-in-Ok-clause-device
returns-in-Ok-clause-device g c = λ honest. (c.in-Ok.ensures.opened.image honest, c.in-Ok.ensures.opened.settled honest)

pub returns-in-Ok-clause-paced : goal.returns-in-Ok-clause-paced
returns-in-Ok-clause-paced g c = λ plant. record { few = none_few (first plant); ends = λ held. absurd held }
