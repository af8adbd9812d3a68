use Rattle.std.proofs.Common.{◌≡◌, ◌∙◌, sym, ap, subst, Option}
use Rattle.std.proofs.Props.{props}
use Rattle.std.proofs.Math.Logic.{∥∥₁_elim}
use Rattle.alm_board.specs.Logs.{actions_of}
use Rattle.alm_model.specs.Look.{IsLook}
use Rattle.alm_model.specs.Plant.{Condensed}
use Rattle.alm_model.specs.Step.{run}
use Rattle.alm_seq.specs.Sequences.{live_of}
use Rattle.alm_desk.specs.Backends.{IsAsked}
use Rattle.alm_pipeline.proofs.Shown.{shown_plant}
use Rattle.alm_stack.specs.Stacks.{if_running}
use Rattle.alm_stack.proofs.Rests.{lives}
use Rattle.alm_stack.proofs.Looking.{looks_through}
use Rattle.alm_stack.proofs.stack.StackOverBackend.ask.Goals as goal

pub returns-clause-asked : goal.returns-clause-asked
returns-clause-asked g c =
    let s = c.args.self.now in
    let p = s.pipeline in
    let live = live_of p.sequencer in
    let at : run p.flusher.board.base.value (actions_of p.flusher.board.log) ≡ live =
    ∥∥₁_elim (s.rests c.in-None.is) (hlevel props) (λ r. shown_plant r.0 p r.1.0.fits ∙ (ap (run r.0.base) r.1.1.published ∙ sym (lives r.0 p r.1.0.fits))) in
    let board : c.looker-look.result.board.now ≡ p.flusher.board = c.looker-look.ensures.board ∙ c.board.ensures.board in
    let shown = ap (λ d. run d.base.value (actions_of d.log)) board ∙ at in
    subst (λ (o : Option Condensed). IsAsked o c.args.query c.args.answer.now c.look.new.answer c.look.result) (sym (ap (λ x. if_running x live) c.in-None.is))
    (subst (λ (q : Condensed). IsLook q c.args.query c.args.answer.now c.look.new.answer c.look.result) shown c.look.ensures.shown)

pub returns-clause-run : goal.returns-clause-run
returns-clause-run g c = λ w m.
    let s = c.args.self.now in
    let board : c.looker-look.result.board.now ≡ s.pipeline.flusher.board = c.looker-look.ensures.board ∙ c.board.ensures.board in
    let shown = ap (λ d. run d.base.value (actions_of d.log)) board ∙ shown_plant w s.pipeline m.1.0.fits in
    looks_through w c.args.query c.args.answer.now c.look.new.answer s c.look.result m (subst (λ (q : Condensed). IsLook q c.args.query c.args.answer.now c.look.new.answer c.look.result) shown c.look.ensures.shown)
