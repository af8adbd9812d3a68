use Rattle.std.proofs.Common.{◌-◌, ◌∙◌, take, sym, refl, subst, arith}
use Rattle.alm_model.specs.Plant.{Condensed}
use Rattle.alm_keeper.specs.AsStore.{StandsFor}
use Rattle.alm_pipeline.specs.World.{after_step}
use Rattle.alm_store.specs.Recovery.{IsPrefixPlant}
use Rattle.alm_pipeline.specs.declared.step.Step.TheVariants as S
use Rattle.alm_pipeline.specs.declared.step_event.StepEvent.TheVariants as E
use Rattle.alm_bench.proofs.Carried.{carried, honest_as, open_paced, paced_as, same_count, skips_paced, steps_as, still, there, reopened_between, shut_not_open}
use Rattle.alm_bench.proofs.Reopened.{storage_fault, found, reaches}
use Rattle.alm_bench.proofs.bench.Bench.reopen.Goals as goal

pub returns-in-Ok-clause-answer : goal.returns-in-Ok-clause-answer
returns-in-Ok-clause-answer g c = λ honest w m.
    let is = honest_as _ _ c.put.ensures.setup honest in
    let shut = still w _ _ (sym c.in-Shut.ensures.setup) m in
    let store = c.in-Ok.pipeline.flusher.store in
    let image = c.in-Ok.ensures.opened.image shut.1 in
    let encodes = c.in-Ok.ensures.opened.encodes is in
    let prefix : IsPrefixPlant w.base w.accepted w.floor store.stored.plant = (shut.2 (g.D.Disk.state store.disk).bytes image).each store.stored.plant encodes in
    (shut.0, omega (arith, prefix.enough, c.count-count.ensures), omega (arith, prefix.no_more, c.count-count.ensures))

pub returns-in-Ok-clause-stands : goal.returns-in-Ok-clause-stands
returns-in-Ok-clause-stands g c = λ honest w m.
    let is = honest_as _ _ c.put.ensures.setup honest in
    let shut = still w _ _ (sym c.in-Shut.ensures.setup) m in
    let store = c.in-Ok.pipeline.flusher.store in
    let n = c.count-count.result in
    let image = c.in-Ok.ensures.opened.image shut.1 in
    let encodes = c.in-Ok.ensures.opened.encodes is in
    let prefix : IsPrefixPlant w.base w.accepted w.floor store.stored.plant = (shut.2 (g.D.Disk.state store.disk).bytes image).each store.stored.plant encodes in
    still (after_step w S.Reopen (E.Opened n)) _ _ (sym c.put.ensures.setup) (
      c.in-Ok.ensures.«open» w.base (take (n - w.base.panel.count) w.accepted) w.floor
          (found w.base w.accepted w.floor store.stored.plant n c.count-count.ensures prefix) (reaches w.base w.accepted w.floor store.stored.plant n c.count-count.ensures prefix),
      is,
    )

pub returns-in-Ok-clause-moves : goal.returns-in-Ok-clause-moves
returns-in-Ok-clause-moves g c = λ honest w m.
    let is = honest_as _ _ c.put.ensures.setup honest in
    let k = c.args.self.now.answer.refused in
    let shut = still w _ _ (sym c.in-Shut.ensures.setup) m in
    let store = c.in-Ok.pipeline.flusher.store in
    let bytes = (g.D.Disk.state store.disk).bytes in
    let n = c.count-count.result in
    let image = c.in-Ok.ensures.opened.image shut.1 in
    let encodes = c.in-Ok.ensures.opened.encodes is in
    let prefix : IsPrefixPlant w.base w.accepted w.floor store.stored.plant = (shut.2 bytes image).each store.stored.plant encodes in
    carried w S.Reopen (E.Opened n) k k k _ _ _ _ _ refl (same_count c.args.self.now.answer _ _ c.put.ensures.answer c.in-Shut.ensures.answer) c.in-Shut.ensures.setup (sym c.put.ensures.setup)
    (image, c.in-Ok.ensures.opened.settled shut.1, subst (λ (q : Condensed). StandsFor bytes q) (found w.base w.accepted w.floor store.stored.plant n c.count-count.ensures prefix) encodes, c.in-Ok.ensures.idle, refl)

pub returns-in-Err-clause-answer : goal.returns-in-Err-clause-answer
returns-in-Err-clause-answer g c = λ honest w m.
    let is = honest_as _ _ c.put-in-Err.ensures.setup honest in
    let shut = still w _ _ (sym c.in-Shut.ensures.setup) m in
    (shut.0, storage_fault StandsFor w.base w.accepted w.floor (g.D.Disk.state c.in-Shut.disk) c.in-Err.fault (g.D.Disk.failures c.in-Shut.disk) (g.D.Disk.failures c.in-Err.disk) shut.2 (c.in-Err.ensures.refused.cause is))

pub returns-in-Err-clause-stands : goal.returns-in-Err-clause-stands
returns-in-Err-clause-stands g c = λ honest w m.
    let is = honest_as _ _ c.put-in-Err.ensures.setup honest in
    let shut = still w _ _ (sym c.in-Shut.ensures.setup) m in
    still w _ _ (sym c.put-in-Err.ensures.setup) (shut.0, is, λ image left. shut.2 image (c.in-Err.ensures.refused.no_new_image shut.1 image left))

pub returns-in-Err-clause-moves : goal.returns-in-Err-clause-moves
returns-in-Err-clause-moves g c = λ honest w m.
    let is = honest_as _ _ c.put-in-Err.ensures.setup honest in
    let n = c.args.self.now.answer.refused in
    let shut = still w _ _ (sym c.in-Shut.ensures.setup) m in
    carried w S.Reopen (E.Unopened c.in-Err.fault) n n n _ _ _ _ _ refl (same_count c.args.self.now.answer _ _ c.put-in-Err.ensures.answer c.in-Shut.ensures.answer) c.in-Shut.ensures.setup (sym c.put-in-Err.ensures.setup) (c.in-Err.ensures.refused.no_new_image shut.1, c.in-Err.ensures.refused.cause is, refl)

pub returns-in-Open-clause-answer : goal.returns-in-Open-clause-answer
returns-in-Open-clause-answer g c = λ honest w m possible. shut_not_open w.closed possible (still w _ _ (sym c.in-Open.ensures.setup) m).0.opened

pub returns-in-Open-clause-stands : goal.returns-in-Open-clause-stands
returns-in-Open-clause-stands g c = λ honest w m. still w _ _ (sym c.put-in-Open.ensures.setup) (still w _ _ (sym c.in-Open.ensures.setup) m)

pub returns-in-Open-clause-moves : goal.returns-in-Open-clause-moves
returns-in-Open-clause-moves g c = λ honest w m.
    let n = c.args.self.now.answer.refused in carried w S.Reopen E.Skipped n n n _ _ _ _ _ refl (same_count c.args.self.now.answer _ _ c.put-in-Open.ensures.answer c.in-Open.ensures.answer) c.in-Open.ensures.setup (sym c.put-in-Open.ensures.setup) refl

pub returns-in-Gone : goal.returns-in-Gone
returns-in-Gone g c = record {
  honest = λ h. absurd (c.take.ensures.gone h);
  answer = λ honest w m. absurd (still w _ _ (sym c.in-Gone.ensures.setup) m);
  stands = λ honest w m. absurd (still w _ _ (sym c.in-Gone.ensures.setup) m);
  moves = λ honest w m. absurd (still w _ _ (sym c.in-Gone.ensures.setup) m);
  paces = λ honest w more m e. absurd (still w _ _ (sym c.in-Gone.ensures.setup) m);
  reopened = reopened_between E.Skipped _ _ _ _ c.in-Gone.ensures.setup refl tt;
  there = λ h. absurd (there _ _ (sym c.in-Gone.ensures.setup) h);
}

pub returns-in-Ok-clause-there : goal.returns-in-Ok-clause-there
returns-in-Ok-clause-there g c = λ h. there _ _ (sym c.put.ensures.setup) tt

pub returns-in-Err-clause-there : goal.returns-in-Err-clause-there
returns-in-Err-clause-there g c = λ h. there _ _ (sym c.put-in-Err.ensures.setup) tt

pub returns-in-Open-clause-there : goal.returns-in-Open-clause-there
returns-in-Open-clause-there g c = λ h. there _ _ (sym c.put-in-Open.ensures.setup) tt

pub returns-in-Ok-clause-reopened : goal.returns-in-Ok-clause-reopened
returns-in-Ok-clause-reopened g c = reopened_between (E.Opened c.count-count.result) _ _ _ _ c.in-Shut.ensures.setup (sym c.put.ensures.setup) c.in-Ok.ensures.opened.made

pub returns-in-Err-clause-reopened : goal.returns-in-Err-clause-reopened
returns-in-Err-clause-reopened g c = reopened_between (E.Unopened c.in-Err.fault) _ _ _ _ c.in-Shut.ensures.setup (sym c.put-in-Err.ensures.setup) c.in-Err.ensures.refused.made

pub returns-in-Open-clause-reopened : goal.returns-in-Open-clause-reopened
returns-in-Open-clause-reopened g c = reopened_between E.Skipped _ _ _ _ c.in-Open.ensures.setup (sym c.put-in-Open.ensures.setup) refl

pub returns-in-Ok-clause-paces : goal.returns-in-Ok-clause-paces
returns-in-Ok-clause-paces g c = λ honest w more m e. steps_as w S.Reopen (E.Opened c.count-count.result) more _ _ (sym c.put.ensures.setup) (open_paced w c.count-count.result more c.in-Ok.pipeline)

pub returns-in-Err-clause-paces : goal.returns-in-Err-clause-paces
returns-in-Err-clause-paces g c = λ honest w more m e. steps_as w S.Reopen (E.Unopened c.in-Err.fault) more _ _ (sym c.put-in-Err.ensures.setup) (more, omega arith, paced_as more w _ _ (sym c.in-Shut.ensures.setup) e)

pub returns-in-Open-clause-paces : goal.returns-in-Open-clause-paces
returns-in-Open-clause-paces g c = λ honest w more m e. skips_paced w S.Reopen more _ _ (sym c.in-Open.ensures.setup ∙ sym c.put-in-Open.ensures.setup) e

pub returns-in-Ok-clause-honest : goal.returns-in-Ok-clause-honest
returns-in-Ok-clause-honest g c = λ h. honest_as _ _ c.in-Shut.ensures.setup (c.in-Ok.ensures.opened.honest (honest_as _ _ c.put.ensures.setup h))

pub returns-in-Err-clause-honest : goal.returns-in-Err-clause-honest
returns-in-Err-clause-honest g c = λ h. honest_as _ _ c.in-Shut.ensures.setup (c.in-Err.ensures.refused.honest (honest_as _ _ c.put-in-Err.ensures.setup h))

pub returns-in-Open-clause-honest : goal.returns-in-Open-clause-honest
returns-in-Open-clause-honest g c = λ h. honest_as _ _ c.in-Open.ensures.setup (honest_as _ _ c.put-in-Open.ensures.setup h)
