use Rattle.std.proofs.Common.{◌≡◌, ◌≤◌, ◌+◌, ◌^◌, ⊎_elim, inl, inr, length, refl, sym, ap, subst, arith}
use Rattle.alm_pipeline.specs.declared.step.Step.TheVariants as S
use Rattle.alm_pipeline.specs.declared.step_event.StepEvent.{StepEvent}
use Rattle.alm_pipeline.specs.declared.step_event.StepEvent.TheVariants as E
use Rattle.alm_pipeline.specs.World.{Answers, after_step}
use Rattle.alm_pipeline.specs.Matches.{MatchesOpenWorld}
use Rattle.alm_pipeline.specs.Headline.{Sight}
use Rattle.alm_pipeline.proofs.Moved.{opened_as}
use Rattle.alm_stack.specs.Exchanges.{handed_in, sight_of}
use Rattle.alm_stack.proofs.Worlds.{sent_or_busy, took, sealed, fetched, sent_at, taken_at, sealed_at, fetched_at, is_fetched, judged_on, may_take, may_seal, may_fetch}
use Rattle.alm_stack.proofs.exchange.hand_in.Goals as goal

pub returns-clause-handed : goal.returns-clause-handed
returns-clause-handed g c = λ _ w m.
    let s = g.K.Store in
    let slot = c.args.slot in
    let want = c.args.want in
    let i = m.1 in
    let v = c.in-Took.field-0 in
    let w1 = sent_at w slot want in
    let w2 = taken_at w slot want v in
    let w3 = sealed_at w slot want v in
    let o1 = c.in-Sent.ensures.fits w m.0 in
    let o2 = c.in-Took.ensures.fits w1 o1 in
    let o3 = c.in-Sealed.ensures.fits w2 o2 in
    let o4 = c.in-Fetched.ensures.fits w3 o3 in
    let a1 = c.in-Sent.ensures.answer w m.0 in
    let a2 = c.in-Took.ensures.answer w1 o1 in
    let end = is_fetched w i slot want v in
    let h1 = λ (h : (g.K.Device.Disk.honest (s.disk c.args.pipeline.now.flusher.store))). subst (λ k. g.K.Device.Disk.honest (s.disk k)) (sym c.in-Sent.ensures.store) h in
    let h2 = λ (h : (g.K.Device.Disk.honest (s.disk c.args.pipeline.now.flusher.store))). subst (λ k. g.K.Device.Disk.honest (s.disk k)) (sym c.in-Took.ensures.store) (h1 h) in
    let h3 = λ (h : (g.K.Device.Disk.honest (s.disk c.args.pipeline.now.flusher.store))). subst (λ k. g.K.Device.Disk.honest (s.disk k)) (sym c.in-Sealed.ensures.store) (h2 h) in
    let sees = λ (k : _). let at : Sight = record { state = g.K.Device.Disk.state (s.disk k); failures = g.K.Device.Disk.failures (s.disk k); phase = (s.state k).phase; refused = 0 } in at in (
      c.in-Sent.field-0,
      v,
      judged_on w i slot want v a2,
      a1.2,
      opened_as (fetched_at w slot want v) (handed_in w slot want v) c.fetch.new.self end o4,
      (
        sight_of c.send.new.self,
        a1,
        (λ h. (c.images.ensures.headline h w m.0.fits, ap sees c.in-Sent.ensures.store)),
        (
          sight_of c.take.new.self,
          a2,
          (λ h. (c.images-2.ensures.headline (h1 h) w1 o1.fits, ap sees c.in-Took.ensures.store)),
          (
            sight_of c.seal.new.self,
            c.in-Sealed.ensures.answer w2 o2,
            (λ h. (c.images-3.ensures.headline (h2 h) w2 o2.fits, ap sees c.in-Sealed.ensures.store)),
            (
              sight_of c.fetch.new.self,
              c.in-Fetched.ensures.answer w3 o3,
              (λ h. (c.images-4.ensures.headline (h3 h) w3 o3.fits, λ j. record { state = c.in-Fetched.ensures.store.0 j; failures = c.in-Fetched.ensures.store.1 j; phase = c.in-Fetched.ensures.store.2 j; refused = 0 })),
              (sym end, refl),
            ),
          ),
        ),
      ),
    )

pub returns-in_default-clause-spent : goal.returns-in_default-clause-spent
returns-in_default-clause-spent g c = λ _ w m.
    let s = g.K.Store in
    let slot = c.args.slot in
    let want = c.args.want in
    let q = c.send.new.self in
    let a = c.send.ensures.answer w m.0 in
    let busy : c.send.result ≡ E.Busy = elim (sent_or_busy w slot want c.send.result m.1.opened a) [ inl x ↦ absurd (c.in_default.not-Sent x.0 x.1) | inr is ↦ is ] in
    let answer = subst (λ (e : StepEvent). Answers w (S.Send slot want) e) busy a in
    let full : 2 ^ 64 ≤ length (w.sent slot) + 1 = ⊎_elim (λ x. absurd (omega (arith, x, m.1.received slot))) (λ x. x) answer.1 in
    let sees = λ (k : _). let at : Sight = record { state = g.K.Device.Disk.state (s.disk k); failures = g.K.Device.Disk.failures (s.disk k); phase = (s.state k).phase; refused = 0 } in at in (
      full,
      subst (λ (e : StepEvent). MatchesOpenWorld (after_step w (S.Send slot want) e) q) busy (c.send.ensures.fits w m.0),
      (sight_of q, answer, (λ h. (c.images.ensures.headline h w m.0.fits, ap sees c.send.ensures.store)), (refl, refl)),
    )

pub returns-in_default-take-clause-spent : goal.returns-in_default-take-clause-spent
returns-in_default-take-clause-spent g c = λ _ w m.
    let slot = c.args.slot in
    let want = c.args.want in
    let o1 = c.in-Sent.ensures.fits w m.0 in
    let t = took (sent_at w slot want) slot c.take.result (may_take w m.1 slot want) (c.take.ensures.answer (sent_at w slot want) o1) in
    absurd (c.in_default-take.not-Took t.0 t.1)

pub returns-in_default-seal-clause-spent : goal.returns-in_default-seal-clause-spent
returns-in_default-seal-clause-spent g c = λ _ w m.
    let slot = c.args.slot in
    let want = c.args.want in
    let v = c.in-Took.field-0 in
    let o2 = c.in-Took.ensures.fits (sent_at w slot want) (c.in-Sent.ensures.fits w m.0) in
    absurd (c.in_default-seal.not-Sealed (sealed (taken_at w slot want v) c.seal.result (may_seal w m.1 slot want v) (c.seal.ensures.answer (taken_at w slot want v) o2)))

pub returns-in_default-fetch-clause-spent : goal.returns-in_default-fetch-clause-spent
returns-in_default-fetch-clause-spent g c = λ _ w m.
    let slot = c.args.slot in
    let want = c.args.want in
    let v = c.in-Took.field-0 in
    let o2 = c.in-Took.ensures.fits (sent_at w slot want) (c.in-Sent.ensures.fits w m.0) in
    let o3 = c.in-Sealed.ensures.fits (taken_at w slot want v) o2 in
    absurd (c.in_default-fetch.not-Fetched (fetched (sealed_at w slot want v) c.fetch.result (may_fetch w m.1 slot want v) (c.fetch.ensures.answer (sealed_at w slot want v) o3)))
