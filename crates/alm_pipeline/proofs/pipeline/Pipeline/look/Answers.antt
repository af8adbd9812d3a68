use Rattle.std.proofs.Common.{◌≡◌, ◌∙◌, ap, arith, subst, IsOk}
use Rattle.alm_model.specs.Look.{look}
use Rattle.alm_model.specs.Step.{run}
use Rattle.alm_model.proofs.Runs.{run_count}
use Rattle.alm_board.specs.Logs.{actions_of}
use Rattle.alm_pipeline.specs.World.{shown_in}
use Rattle.alm_pipeline.proofs.Shown.{looked_at, shown_plant, skips, was_ok}
use Rattle.alm_pipeline.specs.Matches.{sight_in}
use Rattle.alm_pipeline.proofs.pipeline.Pipeline.look.Goals as goal

pub returns-in-Ok-clause-answer : goal.returns-in-Ok-clause-answer
returns-in-Ok-clause-answer g c = λ w slot m.
    let p = c.args.self.now in
    let plant : run p.flusher.board.base.value (actions_of p.flusher.board.log) ≡ shown_in w = shown_plant w p m.fits in
    let is = c.in-Ok.ensures.shown in
    let board = c.looker-look.ensures.board ∙ c.board.ensures.board in
    let there = ap (λ b. run b.base.value (actions_of b.log)) board ∙ plant in (
      (m.opened, subst (λ q. IsOk (look q c.args.query)) there (was_ok _ _ is.0)),
      is.1 ∙ (ap (λ q. q.panel.count) there ∙ run_count w.base w.published),
    )

pub returns-in-Ok-clause-fits : goal.returns-in-Ok-clause-fits
returns-in-Ok-clause-fits g c = λ w slot m.
    let count = (returns-in-Ok-clause-answer g c w slot m).1 in
    looked_at w c.args.self.now c.in-Ok.count (omega (arith, count)) m

pub returns-clause-moves : goal.returns-clause-moves
returns-clause-moves g c = λ w slot m.
    let p = c.args.self.now in
    let plant : run p.flusher.board.base.value (actions_of p.flusher.board.log) ≡ shown_in w = shown_plant w p m.fits in
    let board = c.looker-look.ensures.board ∙ c.board.ensures.board in
    let there = ap (λ b. run b.base.value (actions_of b.log)) board ∙ plant in
    skips w slot p _ c.args.query c.in-Err.field-0 c.args.answer.now c.look.new.answer there c.in-Err.ensures.shown

pub returns-in-Ok-clause-moves : goal.returns-in-Ok-clause-moves
returns-in-Ok-clause-moves g c = λ w slot m. ap (λ n. sight_in n c.args.self.now) c.in-Ok.ensures.shown.2
