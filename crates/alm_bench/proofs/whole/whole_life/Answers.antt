use Rattle.std.proofs.Common.{List, ℕ, inl, inr, refl, sym, subst}
use Rattle.alm_disk.proofs.Images.{settled_image}
use Rattle.alm_model.specs.New.{new_plant}
use Rattle.alm_keeper.specs.AsStore.{StandsFor}
use Rattle.alm_bench.specs.StandOnly.{StandOnly}
use Rattle.alm_bench.proofs.whole.whole_life.Goals as goal

pub returns-in-Ok-life-clause-honest : goal.returns-in-Ok-life-clause-honest
returns-in-Ok-life-clause-honest g c = λ end. c.in-Ok.ensures.formatted.same.honest.1 (c.in-Ok-life.ensures.honest end)

pub returns-in-Ok-life-clause-run : goal.returns-in-Ok-life-clause-run
returns-in-Ok-life-clause-run g c = λ end.
    let honest = returns-in-Ok-life-clause-honest g c end in
    let state = g.D.Disk.state c.in-Ok.disk in
    let plant = new_plant c.args.table.now in
    let settled = c.in-Ok.ensures.formatted.settled honest in
    let new = c.in-Ok.ensures.formatted.stands honest in
    let only : StandOnly state plant = λ image is. subst (λ (bytes : List ℕ). StandsFor bytes plant) (sym (settled_image state state.bytes image settled is)) (1, new.stands) in
    let run = c.in-Ok-life.ensures.run plant only end in
    (c.in-Ok.disk, c.in-Ok.ensures.formatted, only, run)

pub returns-in-Ok-life-clause-told : goal.returns-in-Ok-life-clause-told
returns-in-Ok-life-clause-told g c = λ end.
    let honest = returns-in-Ok-life-clause-honest g c end in
    let state = g.D.Disk.state c.in-Ok.disk in
    let plant = new_plant c.args.table.now in
    let settled = c.in-Ok.ensures.formatted.settled honest in
    let only : StandOnly state plant = λ image is. subst (λ (bytes : List ℕ). StandsFor bytes plant) (sym (settled_image state state.bytes image settled is)) (1, (c.in-Ok.ensures.formatted.stands honest).stands) in
    c.in-Ok-life.ensures.told plant only end

pub returns-in-Err-life-clause-refused : goal.returns-in-Err-life-clause-refused
returns-in-Err-life-clause-refused g c =
    let back = c.in-Err-life.ensures.refused in
    inr (refl, c.in-Ok.disk, c.in-Ok.ensures.formatted, back)

pub returns-in-Err-clause-refused : goal.returns-in-Err-clause-refused
returns-in-Err-clause-refused g c = inl c.in-Err.ensures.refused

pub returns-in-Ok-life-clause-paces : goal.returns-in-Ok-life-clause-paces
returns-in-Ok-life-clause-paces g c = λ end.
    let honest = returns-in-Ok-life-clause-honest g c end in
    let state = g.D.Disk.state c.in-Ok.disk in
    let plant = new_plant c.args.table.now in
    let settled = c.in-Ok.ensures.formatted.settled honest in
    let only : StandOnly state plant = λ image is. subst (λ (bytes : List ℕ). StandsFor bytes plant) (sym (settled_image state state.bytes image settled is)) (1, (c.in-Ok.ensures.formatted.stands honest).stands) in
    c.in-Ok-life.ensures.paces plant only end
