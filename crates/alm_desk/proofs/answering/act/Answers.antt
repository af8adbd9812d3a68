use Rattle.std.proofs.Common.{◌≡◌, ◌∙◌, ℕ, List, ◌++◌, ◌∷◌, [], Option, Some, None, Ok, sym, ap, subst, rules}
use Rattle.alm_types.specs.declared.action.Action.{Action}
use Rattle.alm_types.specs.declared.event.Event.{Event}
use Rattle.alm_types.specs.declared.refusal.Refusal.{Refusal}
use Rattle.alm_types.specs.declared.request.Request.{Request}
use Rattle.alm_types.specs.declared.verdict.Verdict.TheVariants.{Accepted, Refused}
use Rattle.alm_lines.specs.declared.ask.Ask.TheVariants.{Act}
use Rattle.alm_model.specs.Accept.{accept}
use Rattle.alm_model.specs.Plant.{Condensed}
use Rattle.alm_events.specs.Events.{most_kept, last}
use Rattle.alm_desk.specs.Answers.{recent_after}
use Rattle.alm_desk.specs.Backends.{IsJudged, IsMomentOf}
use Rattle.alm_desk.specs.Notebooks.{moment_after}
use Rattle.alm_desk.specs.declared.hindrance.Hindrance.TheVariants.{Nothing}
use Rattle.alm_desk.specs.declared.judged_request.JudgedRequest.{JudgedRequest}
use Rattle.alm_desk.proofs.Remembering.{remembered, not_remembered}
use Rattle.alm_desk.proofs.answering.act.Goals as goal

module _ (r : Request) (id m : ℕ) (recent : List Event) where
  accepted-recent : (o new : Option Condensed) (j : JudgedRequest) (a : Action) → IsJudged o r (Ok j) new → IsMomentOf o m → j.verdict ≡ Accepted a
      → last most_kept (recent ++ record { moment = moment_after m a; slot = r.slot; action = a } ∷ []) ≡ recent_after o recent (record { slot = r.slot; line = record { id = id; ask = Act r.want } }) Nothing
  accepted-recent None new j a judged now is = absurd judged
  accepted-recent (Some q) new j a judged now is = (remembered q (accept q.panel r) r.slot q.panel.count m recent a now (sym (ap (λ (x : JudgedRequest). x.verdict) judged.0) ∙ is)).told

  accepted-moment : (o new : Option Condensed) (j : JudgedRequest) (a : Action) → IsJudged o r (Ok j) new → IsMomentOf o m → j.verdict ≡ Accepted a → IsMomentOf new (moment_after m a)
  accepted-moment None new j a judged now is = absurd judged
  accepted-moment (Some q) new j a judged now is =
      subst (λ o. IsMomentOf o (moment_after m a)) (sym judged.1) (remembered q (accept q.panel r) r.slot q.panel.count m recent a now (sym (ap (λ (x : JudgedRequest). x.verdict) judged.0) ∙ is)).moment

  refused-recent : (o new : Option Condensed) (j : JudgedRequest) (why : Refusal) (n : ℕ) → IsJudged o r (Ok j) new → j.verdict ≡ Refused why n
      → recent ≡ recent_after o recent (record { slot = r.slot; line = record { id = id; ask = Act r.want } }) Nothing
  refused-recent None new j why n judged is = absurd judged
  refused-recent (Some q) new j why n judged is = (not_remembered q (accept q.panel r) r.slot q.panel.count recent why n (sym (ap (λ (x : JudgedRequest). x.verdict) judged.0) ∙ is)).told

  refused-moment : (o new : Option Condensed) (j : JudgedRequest) (why : Refusal) (n : ℕ) → IsJudged o r (Ok j) new → IsMomentOf o m → j.verdict ≡ Refused why n → IsMomentOf new m
  refused-moment None new j why n judged now is = absurd judged
  refused-moment (Some q) new j why n judged now is =
      let kept = (not_remembered q (accept q.panel r) r.slot q.panel.count recent why n (sym (ap (λ (x : JudgedRequest). x.verdict) judged.0) ∙ is)).plant in
      subst (λ o. IsMomentOf o m) (sym (judged.1 ∙ ap Some kept)) now

pub returns-in-Accepted-clause-standing : goal.returns-in-Accepted-clause-standing
returns-in-Accepted-clause-standing g c =
    let recent = (rw c.in-Accepted.action-is at c.remember.ensures.recent)
    ∙ accepted-recent (record { slot = c.args.slot; want = c.args.want }) c.args.id c.args.notebook.now.moment c.args.notebook.now.recent _ _ c.in-Ok.judged c.in-Accepted.action c.in-Ok.ensures.judged c.requires c.in-Accepted.is in
    search rules

pub returns-in-Accepted-clause-moment : goal.returns-in-Accepted-clause-moment
returns-in-Accepted-clause-moment g c =
    subst (IsMomentOf (g.B.Backend.stands c.submit.new.self)) (sym (rw c.in-Accepted.action-is at c.remember.ensures.moment))
    (accepted-moment (record { slot = c.args.slot; want = c.args.want }) c.args.id c.args.notebook.now.moment c.args.notebook.now.recent _ _ c.in-Ok.judged c.in-Accepted.action c.in-Ok.ensures.judged c.requires c.in-Accepted.is)

pub returns-in-Refused-clause-standing : goal.returns-in-Refused-clause-standing
returns-in-Refused-clause-standing g c =
    let recent = refused-recent (record { slot = c.args.slot; want = c.args.want }) c.args.id c.args.notebook.now.moment c.args.notebook.now.recent _ _ c.in-Ok.judged _ _ c.in-Ok.ensures.judged c.in-Refused.is in
    search rules

pub returns-in-Refused-clause-moment : goal.returns-in-Refused-clause-moment
returns-in-Refused-clause-moment g c =
    refused-moment (record { slot = c.args.slot; want = c.args.want }) c.args.id c.args.notebook.now.moment c.args.notebook.now.recent _ _ c.in-Ok.judged _ _ c.in-Ok.ensures.judged c.requires c.in-Refused.is
