use Rattle.std.proofs.Common.{◌≡◌, ◌∙◌, ◌<◌, ℕ, [], ◌∷◌, Option, Some, Ok, Err, sym, ap, subst, arith}
use Rattle.std.proofs.Props.{props}
use Rattle.std.proofs.Math.Logic.{∥∥₁_elim, ∥∥₁_prop}
use Rattle.std.proofs.lemmas.Option.{same_Some}
use Rattle.alm_types.specs.declared.request.Request.{Request}
use Rattle.alm_model.specs.Accept.{accept}
use Rattle.alm_model.specs.Plant.{Condensed}
use Rattle.alm_model.specs.Judging.{verdict_of}
use Rattle.alm_seq.specs.Sequences.{live_of}
use Rattle.alm_desk.specs.Backends.{IsJudged, if_accepted, judged_on, kept_by}
use Rattle.alm_stack.specs.Exchanges.{MayWait}
use Rattle.alm_stack.specs.Stacks.{if_running, kept_at, kept_of}
use Rattle.alm_stack.proofs.Rests.{failed_is, lives, sent_by}
use Rattle.alm_stack.proofs.stack.StackOverBackend.submit.Goals as goal

pub invariant_of-self : goal.invariant_of-self
invariant_of-self g c =
    let s = c.args.self.now in
    record {
      rests = λ _. ∥∥₁_elim (s.rests c.in-None.is) ∥∥₁_prop (λ r. let a = c.in-Ok.ensures.judged r.0 r.1 in ∣ (a.1, a.2) ∣₁);
      halts = λ r is. absurd (cc (sym c.in-None.is ∙ is));
    }

pub invariant_of-self-in-Err : goal.invariant_of-self-in-Err
invariant_of-self-in-Err g c =
    let s = c.args.self.now in
    let q = c.exchange.new.pipeline in
    record {
      rests = λ is. absurd (cc is);
      halts = λ r is. ∥∥₁_elim (s.rests c.in-None.is) ∥∥₁_prop (λ m.
          let left = c.in-Err.ensures.left m.0 m.1 in
          ∣ subst (λ (y : Request). MayWait q.flusher.held (verdict_of (g.K.Store.state q.flusher.store).stored y)) (same_Some c.args.request.now r is)
          (subst (λ (x : Condensed). MayWait q.flusher.held (verdict_of x c.args.request.now)) (sym left.0) left.1) ∣₁);
    }

pub returns-in-Ok-clause-judged : goal.returns-in-Ok-clause-judged
returns-in-Ok-clause-judged g c =
    let s = c.args.self.now in
    let none = c.in-None.is in
    let r = c.args.request.now in
    let q = c.exchange.new.pipeline in
    let live = live_of s.pipeline.sequencer in
    let later = live_of q.sequencer in
    let is : (c.in-Ok.judged ≡ judged_on live r) × (later ≡ if_accepted live (accept live.panel r)) = ∥∥₁_elim (s.rests none) (hlevel props) (λ m.
    let a = c.in-Ok.ensures.judged m.0 m.1 in
    let at = sym (lives m.0 s.pipeline m.1.0.fits) in
    (a.0 ∙ ap (λ (x : Condensed). judged_on x r) at, lives a.1 q a.2.0.fits ∙ (a.3 ∙ ap (λ (x : Condensed). if_accepted x (accept x.panel r)) at))) in
    subst (λ (o : Option Condensed). IsJudged o r (Ok c.in-Ok.judged) (if_running s.halted later)) (sym (ap (λ h. if_running h live) none))
    (is.0, ap (λ h. if_running h later) none ∙ ap Some is.1)

pub returns-in-Ok-clause-stored : goal.returns-in-Ok-clause-stored
returns-in-Ok-clause-stored g c =
    let s = c.args.self.now in
    let none = c.in-None.is in
    let r = c.args.request.now in
    let q = c.exchange.new.pipeline in
    let live = live_of s.pipeline.sequencer in
    let later = live_of q.sequencer in
    let is : later ≡ if_accepted live (accept live.panel r) = ∥∥₁_elim (s.rests none) (hlevel props) (λ m.
    let a = c.in-Ok.ensures.judged m.0 m.1 in
    lives a.1 q a.2.0.fits ∙ (a.3 ∙ ap (λ (x : Condensed). if_accepted x (accept x.panel r)) (sym (lives m.0 s.pipeline m.1.0.fits)))) in
    ap (λ h. kept_at h later (g.K.Store.state q.flusher.store).stored) none ∙ (ap (λ (x : Condensed). x ∷ []) is
    ∙ sym (ap (λ h. kept_by (if_running h live) (kept_of s) r (Ok c.in-Ok.judged)) none))

pub returns-in-Err-clause-stored : goal.returns-in-Err-clause-stored
returns-in-Err-clause-stored g c =
    let s = c.args.self.now in
    let none = c.in-None.is in
    let r = c.args.request.now in
    let q = c.exchange.new.pipeline in
    let live = live_of s.pipeline.sequencer in
    let stored : (g.K.Store.state q.flusher.store).stored ≡ live = ∥∥₁_elim (s.rests none) (hlevel props) (λ m. (c.in-Err.ensures.left m.0 m.1).0 ∙ sym (lives m.0 s.pipeline m.1.0.fits)) in
    ap (λ (x : Condensed). x ∷ if_accepted x (accept x.panel r) ∷ []) stored
    ∙ sym (ap (λ h. kept_by (if_running h live) (kept_of s) r (Err (record {}))) none)

pub returns-in-Err-clause-cause : goal.returns-in-Err-clause-cause
returns-in-Err-clause-cause g c = λ some unspent more.
    let few : c.args.request.now.slot < 18 = subst (λ (n : ℕ). n < 18) c.number-place.ensures.number c.number-place.ensures.limit in
    let s = c.args.self.now in
    let q = c.exchange.new.pipeline in
    failed_is (g.K.Device.Disk.failures (g.K.Store.disk s.pipeline.flusher.store)) (g.K.Device.Disk.failures (g.K.Store.disk q.flusher.store)) c.exchange.ensures.count
    (∥∥₁_elim (s.rests c.in-None.is) ∥∥₁_prop (λ m.
    ∣ c.in-Err.ensures.cause m.0 m.1 unspent (omega (arith, more, sent_by m.0 s.pipeline c.args.request.now.slot few m.1.0.fits)) ∣₁))
