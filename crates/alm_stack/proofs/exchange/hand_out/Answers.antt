use Rattle.std.proofs.Common.{ℕ, refl, sym, ap, subst, arith}
use Rattle.alm_pipeline.specs.declared.step.Step.TheVariants as S
use Rattle.alm_pipeline.specs.declared.step_event.StepEvent.TheVariants as E
use Rattle.alm_pipeline.specs.World.{Answers, after_step}
use Rattle.alm_pipeline.specs.Headline.{Sight}
use Rattle.alm_pipeline.specs.Matches.{MatchesOpenWorld}
use Rattle.alm_stack.specs.Exchanges.{stored_world, sight_of}
use Rattle.alm_stack.proofs.Worlds.{shown_at, released_at, given_at, received_at, reply_is, reply_of, idle_again, published, released, gave_back, received, may_receive}
use Rattle.alm_stack.proofs.exchange.hand_out.Goals as goal

pub returns-clause-answered : goal.returns-clause-answered
returns-clause-answered g c = λ w want v i o.
    let s = g.K.Store in
    let slot = c.args.slot in
    let y = stored_world w slot want v in
    let y1 = shown_at w slot want v in
    let y2 = released_at w slot want v in
    let y3 = given_at w slot want v in
    let o1 = c.in-Published.ensures.fits y o in
    let a2 = c.in-Released.ensures.answer y1 o1 in
    let same = sym a2.1 in
    let o2 = subst (λ (n : ℕ). MatchesOpenWorld (after_step y1 S.Release (E.Released n)) c.release.new.self) same (c.in-Released.ensures.fits y1 o1) in
    let o3 = c.in-GaveBack.ensures.fits y2 o2 in
    let a4 = c.in-Received.ensures.answer y3 o3 in
    let said = reply_is w i slot want v c.in-Received.field-0 c.in-Received.verdict c.in-Received.number a4 in
    let o4 = c.in-Received.ensures.fits y3 o3 in
    let h1 = λ (h : (g.K.Device.Disk.honest (s.disk c.args.pipeline.now.flusher.store))). subst (λ k. g.K.Device.Disk.honest (s.disk k)) (sym c.in-Published.ensures.store) h in
    let h2 = λ (h : (g.K.Device.Disk.honest (s.disk c.args.pipeline.now.flusher.store))). subst (λ k. g.K.Device.Disk.honest (s.disk k)) (sym c.in-Released.ensures.store) (h1 h) in
    let h3 = λ (h : (g.K.Device.Disk.honest (s.disk c.args.pipeline.now.flusher.store))). subst (λ k. g.K.Device.Disk.honest (s.disk k)) (sym c.in-GaveBack.ensures.store) (h2 h) in
    let sees = λ (k : _). let at : Sight = record { state = g.K.Device.Disk.state (s.disk k); failures = g.K.Device.Disk.failures (s.disk k); phase = (s.state k).phase; refused = 0 } in at in (
      said.0,
      received_at w slot want v,
      (o4, idle_again w i slot want v),
      refl,
      said.1,
      (
        sight_of c.publish.new.self,
        c.in-Published.ensures.answer y o,
        (λ h. (c.images.ensures.headline h y o.fits, ap sees c.in-Published.ensures.store)),
        (
          sight_of c.release.new.self,
          subst (λ (n : ℕ). Answers y1 S.Release (E.Released n)) same a2,
          (λ h. (c.images-2.ensures.headline (h1 h) y1 o1.fits, ap sees c.in-Released.ensures.store)),
          (
            sight_of c.give_back.new.self,
            c.in-GaveBack.ensures.answer y2 o2,
            (λ h. (c.images-3.ensures.headline (h2 h) y2 o2.fits, ap sees c.in-GaveBack.ensures.store)),
            (
              sight_of c.receive.new.self,
              reply_of w i slot want v c.in-Received.number said.1,
              (λ h. (c.images-4.ensures.headline (h3 h) y3 o3.fits, ap sees c.in-Received.ensures.store)),
              (refl, refl),
            ),
          ),
        ),
      ),
    )

pub returns-in_default-clause-sure : goal.returns-in_default-clause-sure
returns-in_default-clause-sure g c = λ _ w want v i o.
    let y = stored_world w c.args.slot want v in
    absurd (c.in_default.not-Published (published y c.publish.result (refl, tt) (c.publish.ensures.answer y o)))

pub returns-in_default-release-clause-sure : goal.returns-in_default-release-clause-sure
returns-in_default-release-clause-sure g c = λ _ w want v i o.
    let slot = c.args.slot in
    let y1 = shown_at w slot want v in
    let o1 = c.in-Published.ensures.fits (stored_world w slot want v) o in
    let r = released y1 c.release.result (refl, omega arith) (c.release.ensures.answer y1 o1) in
    absurd (c.in_default-release.not-Released r.0 r.1)

pub returns-in_default-give_back-clause-sure : goal.returns-in_default-give_back-clause-sure
returns-in_default-give_back-clause-sure g c = λ _ w want v i o.
    let slot = c.args.slot in
    let y1 = shown_at w slot want v in
    let o1 = c.in-Published.ensures.fits (stored_world w slot want v) o in
    let y2 = after_step y1 S.Release (E.Released c.in-Released.field-0) in
    let o2 = c.in-Released.ensures.fits y1 o1 in
    absurd (c.in_default-give_back.not-GaveBack (gave_back y2 c.give_back.result (refl, omega arith) (c.give_back.ensures.answer y2 o2)))

pub returns-in_default-receive-clause-sure : goal.returns-in_default-receive-clause-sure
returns-in_default-receive-clause-sure g c = λ _ w want v i o.
    let slot = c.args.slot in
    let y1 = shown_at w slot want v in
    let y3 = given_at w slot want v in
    let o1 = c.in-Published.ensures.fits (stored_world w slot want v) o in
    let same = sym (c.in-Released.ensures.answer y1 o1).1 in
    let o2 = subst (λ (n : ℕ). MatchesOpenWorld (after_step y1 S.Release (E.Released n)) c.release.new.self) same (c.in-Released.ensures.fits y1 o1) in
    let o3 = c.in-GaveBack.ensures.fits (released_at w slot want v) o2 in
    let r = received y3 slot c.receive.result (may_receive w i slot want v) (c.receive.ensures.answer y3 o3) in
    absurd (c.in_default-receive.not-Received r.0 r.1 r.2 r.3)
