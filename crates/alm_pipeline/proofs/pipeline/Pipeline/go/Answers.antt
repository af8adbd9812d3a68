use Rattle.std.proofs.Common.{refl, sym, subst}
use Rattle.alm_pipeline.specs.declared.step.Step.{Step}
use Rattle.alm_pipeline.specs.declared.step.Step.TheVariants as S
use Rattle.alm_pipeline.specs.World.{Answers, after_step}
use Rattle.alm_pipeline.specs.Matches.{MatchesOpenWorld, StepsInPace}
use Rattle.alm_pipeline.specs.Headline.{Moves}
use Rattle.alm_pipeline.specs.Matches.{sight_in}
use Rattle.alm_pipeline.proofs.Paced.{still_in_pace}
use Rattle.alm_pipeline.proofs.Shown.{same_sight}
use Rattle.alm_pipeline.proofs.pipeline.Pipeline.go.Goals as goal

pub returns-in-Look-clause-answer : goal.returns-in-Look-clause-answer
returns-in-Look-clause-answer g c = λ w m. subst (λ (s : Step). Answers w s c.look.result) (sym c.in-Look.is) (c.look.ensures.answer w c.in-Look.field-0 m)

pub returns-in-Look-clause-fits : goal.returns-in-Look-clause-fits
returns-in-Look-clause-fits g c = λ w m. subst (λ (s : Step). MatchesOpenWorld (after_step w s c.look.result) c.args.self.now) (sym c.in-Look.is) (c.look.ensures.fits w c.in-Look.field-0 m)

pub returns-in-Send-clause-moves : goal.returns-in-Send-clause-moves
returns-in-Send-clause-moves g c = λ w m.
    let n = c.args.answer.now.refused in
    subst (λ (s : Step). Moves g.K.Store.recovers g.K.Store.spent w s c.send.result (sight_in n c.args.self.now) (sight_in n c.send.new.self)) (sym c.in-Send.is) (same_sight n c.args.self.now c.send.new.self c.send.ensures.store)

pub returns-in-Take-clause-moves : goal.returns-in-Take-clause-moves
returns-in-Take-clause-moves g c = λ w m.
    let n = c.args.answer.now.refused in
    subst (λ (s : Step). Moves g.K.Store.recovers g.K.Store.spent w s c.take.result (sight_in n c.args.self.now) (sight_in n c.take.new.self)) (sym c.in-Take.is) (same_sight n c.args.self.now c.take.new.self c.take.ensures.store)

pub returns-in-Seal-clause-moves : goal.returns-in-Seal-clause-moves
returns-in-Seal-clause-moves g c = λ w m.
    let n = c.args.answer.now.refused in
    subst (λ (s : Step). Moves g.K.Store.recovers g.K.Store.spent w s c.seal.result (sight_in n c.args.self.now) (sight_in n c.seal.new.self)) (sym c.in-Seal.is) (same_sight n c.args.self.now c.seal.new.self c.seal.ensures.store)

pub returns-in-Publish-clause-moves : goal.returns-in-Publish-clause-moves
returns-in-Publish-clause-moves g c = λ w m.
    let n = c.args.answer.now.refused in
    subst (λ (s : Step). Moves g.K.Store.recovers g.K.Store.spent w s c.publish.result (sight_in n c.args.self.now) (sight_in n c.publish.new.self)) (sym c.in-Publish.is) (same_sight n c.args.self.now c.publish.new.self c.publish.ensures.store)

pub returns-in-Release-clause-moves : goal.returns-in-Release-clause-moves
returns-in-Release-clause-moves g c = λ w m.
    let n = c.args.answer.now.refused in
    subst (λ (s : Step). Moves g.K.Store.recovers g.K.Store.spent w s c.release.result (sight_in n c.args.self.now) (sight_in n c.release.new.self)) (sym c.in-Release.is) (same_sight n c.args.self.now c.release.new.self c.release.ensures.store)

pub returns-in-GiveBack-clause-moves : goal.returns-in-GiveBack-clause-moves
returns-in-GiveBack-clause-moves g c = λ w m.
    let n = c.args.answer.now.refused in
    subst (λ (s : Step). Moves g.K.Store.recovers g.K.Store.spent w s c.give_back.result (sight_in n c.args.self.now) (sight_in n c.give_back.new.self)) (sym c.in-GiveBack.is) (same_sight n c.args.self.now c.give_back.new.self c.give_back.ensures.store)

pub returns-in-Receive-clause-moves : goal.returns-in-Receive-clause-moves
returns-in-Receive-clause-moves g c = λ w m.
    let n = c.args.answer.now.refused in
    subst (λ (s : Step). Moves g.K.Store.recovers g.K.Store.spent w s c.receive.result (sight_in n c.args.self.now) (sight_in n c.receive.new.self)) (sym c.in-Receive.is) (same_sight n c.args.self.now c.receive.new.self c.receive.ensures.store)

pub returns-in-Fetch-clause-moves : goal.returns-in-Fetch-clause-moves
returns-in-Fetch-clause-moves g c = λ w m.
    let n = c.args.answer.now.refused in
    let kept = c.fetch.ensures.store in
    subst (λ (s : Step). Moves g.K.Store.recovers g.K.Store.spent w s c.fetch.result (sight_in n c.args.self.now) (sight_in n c.fetch.new.self)) (sym c.in-Fetch.is)
    (λ i. record { state = kept.0 i; failures = kept.1 i; phase = kept.2 i; refused = n })

pub returns-in-Look-clause-moves : goal.returns-in-Look-clause-moves
returns-in-Look-clause-moves g c = λ w m.
    subst (λ (s : Step). Moves g.K.Store.recovers g.K.Store.spent w s c.look.result (sight_in c.args.answer.now.refused c.args.self.now) (sight_in c.look.new.answer.refused c.args.self.now)) (sym c.in-Look.is)
    (c.look.ensures.moves w c.in-Look.field-0 m)

pub returns-in-Send-clause-paces : goal.returns-in-Send-clause-paces
returns-in-Send-clause-paces g c = λ w more m e.
    subst (λ (s : Step). StepsInPace w s c.send.result more c.send.new.self) (sym c.in-Send.is)
    (still_in_pace w (S.Send c.in-Send.slot c.in-Send.action) c.send.result more c.args.self.now c.send.new.self tt (c.send.ensures.answer w m) m (c.send.ensures.fits w m) c.send.ensures.store e)

pub returns-in-Take-clause-paces : goal.returns-in-Take-clause-paces
returns-in-Take-clause-paces g c = λ w more m e.
    subst (λ (s : Step). StepsInPace w s c.take.result more c.take.new.self) (sym c.in-Take.is)
    (still_in_pace w (S.Take c.in-Take.slot) c.take.result more c.args.self.now c.take.new.self tt (c.take.ensures.answer w m) m (c.take.ensures.fits w m) c.take.ensures.store e)

pub returns-in-Seal-clause-paces : goal.returns-in-Seal-clause-paces
returns-in-Seal-clause-paces g c = λ w more m e.
    subst (λ (s : Step). StepsInPace w s c.seal.result more c.seal.new.self) (sym c.in-Seal.is)
    (still_in_pace w S.Seal c.seal.result more c.args.self.now c.seal.new.self tt (c.seal.ensures.answer w m) m (c.seal.ensures.fits w m) c.seal.ensures.store e)

pub returns-in-Publish-clause-paces : goal.returns-in-Publish-clause-paces
returns-in-Publish-clause-paces g c = λ w more m e.
    subst (λ (s : Step). StepsInPace w s c.publish.result more c.publish.new.self) (sym c.in-Publish.is)
    (still_in_pace w S.Publish c.publish.result more c.args.self.now c.publish.new.self tt (c.publish.ensures.answer w m) m (c.publish.ensures.fits w m) c.publish.ensures.store e)

pub returns-in-Release-clause-paces : goal.returns-in-Release-clause-paces
returns-in-Release-clause-paces g c = λ w more m e.
    subst (λ (s : Step). StepsInPace w s c.release.result more c.release.new.self) (sym c.in-Release.is)
    (still_in_pace w S.Release c.release.result more c.args.self.now c.release.new.self tt (c.release.ensures.answer w m) m (c.release.ensures.fits w m) c.release.ensures.store e)

pub returns-in-GiveBack-clause-paces : goal.returns-in-GiveBack-clause-paces
returns-in-GiveBack-clause-paces g c = λ w more m e.
    subst (λ (s : Step). StepsInPace w s c.give_back.result more c.give_back.new.self) (sym c.in-GiveBack.is)
    (still_in_pace w S.GiveBack c.give_back.result more c.args.self.now c.give_back.new.self tt (c.give_back.ensures.answer w m) m (c.give_back.ensures.fits w m) c.give_back.ensures.store e)

pub returns-in-Receive-clause-paces : goal.returns-in-Receive-clause-paces
returns-in-Receive-clause-paces g c = λ w more m e.
    subst (λ (s : Step). StepsInPace w s c.receive.result more c.receive.new.self) (sym c.in-Receive.is)
    (still_in_pace w (S.Receive c.in-Receive.slot) c.receive.result more c.args.self.now c.receive.new.self tt (c.receive.ensures.answer w m) m (c.receive.ensures.fits w m) c.receive.ensures.store e)

pub returns-in-Fetch-clause-paces : goal.returns-in-Fetch-clause-paces
returns-in-Fetch-clause-paces g c = λ w more m e. subst (λ (s : Step). StepsInPace w s c.fetch.result more c.fetch.new.self) (sym c.in-Fetch.is) (c.fetch.ensures.paces w more m e)

pub returns-in-Look-clause-paces : goal.returns-in-Look-clause-paces
returns-in-Look-clause-paces g c = λ w more m e.
    subst (λ (s : Step). StepsInPace w s c.look.result more c.args.self.now) (sym c.in-Look.is)
    (still_in_pace w (S.Look c.in-Look.field-0 c.in-Look.query) c.look.result more c.args.self.now c.args.self.now tt (c.look.ensures.answer w c.in-Look.field-0 m) m (c.look.ensures.fits w c.in-Look.field-0 m) refl e)
