use Rattle.std.proofs.Common.{◌≡◌, ◌∙◌, ap, sym, arith, length, sum}
use Rattle.alm_model.specs.Keeping.{ages_after}
use Rattle.alm_measure.proofs.Passing.{aged-none, aged-more, aged-all, aged-quiet}
use Rattle.alm_measure.proofs.Turning.{length-turned}
use Rattle.alm_measure.proofs.ring.Ring.pass.Goals as goal

pub returns-then-self-eq0 : goal.returns-then-self-eq0
returns-then-self-eq0 c =
    let seconds : length c.args.self.now ≡ 600 = ap length (sym c.self.view_is) ∙ length-turned c.self.inside.present c.self.inside.counts (omega arith) ∙ c.self.invariant.seconds in
    let none : sum c.args.self.now ≡ 0 = ap sum (sym c.self.view_is) ∙ sym c.self.invariant.all ∙ c.if-self-eq0.true in
    aged-quiet c.args.seconds c.args.self.now seconds none

pub loop-second-init : goal.loop-second-init
loop-second-init c =
    let seconds : length c.args.self.now ≡ 600 = ap length (sym c.self.view_is) ∙ length-turned c.self.inside.present c.self.inside.counts (omega arith) ∙ c.self.invariant.seconds in
    aged-none c.args.self.now seconds

pub loop-second-preserved : goal.loop-second-preserved
loop-second-preserved c = c.tick.ensures ∙ ap (ages_after 1) c.loop-second.invariant ∙ sym (aged-more c.loop-second._second c.args.self.now)

pub returns : goal.returns
returns c =
    let end : c.loop-second._second ≡ c.min-second-end.result = omega arith in
    c.loop-second.invariant ∙ ap (λ n. ages_after n c.args.self.now) (end ∙ c.min-second-end.ensures) ∙ aged-all c.args.seconds c.args.self.now
