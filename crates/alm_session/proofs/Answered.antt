-- What a look comes to.
use Rattle.std.proofs.Common.{◌≡◌, ℕ, List, [], ◌∷◌, refl, ap, sym, ◌∙◌}
use Rattle.std.specs.Prelude.{Ok, Err, if◌then◌else◌, Bool}
use Rattle.alm_types.specs.declared.action.Action.{Action}
use Rattle.alm_types.specs.declared.answer.Answer.{Answer}
use Rattle.alm_types.specs.declared.query.Query.{Query}
use Rattle.alm_types.specs.declared.refusal.Refusal.{Refusal}
use Rattle.alm_types.specs.declared.refusal.Refusal.TheVariants.{Stopped, OutOfMemory}
use Rattle.alm_types.specs.Counts.{one_more}
use Rattle.alm_types.specs.Reports.{report}
use Rattle.alm_model.specs.Plant.{Condensed}
use Rattle.alm_model.specs.Step.{run}
use Rattle.alm_model.specs.Look.{look}
use Rattle.alm_lines.specs.Reply.{no_text, told_text}
use Rattle.alm_desk.specs.Answers.{look_reply, report_reply}
use Rattle.alm_desk.specs.declared.hindrance.Hindrance.TheVariants.{Nothing, NoMemory}
use Rattle.alm_board.specs.Looks.{LookAnswers}
use Rattle.alm_session.specs.Turns.{LineAnswer, look_refused, stopped, answer_text, query, kinds, heards, unasked_receipts, Learns, Looks, refused_next}

pub told_reply : (q : Condensed) (id n : ℕ) (asked : Query) (answer : Answer) → look q asked ≡ Ok (report asked answer) → n ≡ q.panel.count → told_text id n asked (report asked answer) ≡ look_reply q id asked Nothing
told_reply q id n asked answer e count = ap (λ (k : ℕ). told_text id k asked (report asked answer)) count ∙ sym (ap (report_reply id q.panel.count asked) e)

-- a look that is refused answers its line
pub record IsDenied (looks : Looks) (base : Condensed) (old new : List Action) (id : ℕ) (asked : Query) (refusal : Refusal) (before after : ℕ) : Type 0 where
  pub met : LineAnswer
  pub text : answer_text base met ≡ no_text id refusal
  pub slip : kinds met ≡ query id asked ∷ []
  pub heard : heards met ≡ []
  pub plain : unasked_receipts met ≡ []
  pub known : Learns looks base old met new
  pub refused : after ≡ refused_next base before met

pub denies : (looks : Looks) (base : Condensed) (old new : List Action) (id : ℕ) (asked : Query) (before after : Answer) (refusal : Refusal) → LookAnswers base old new asked before after (Err refusal) → looks.looked asked (Err refusal)
    → IsDenied looks base old new id asked refusal before.refused after.refused
denies looks base old new id asked before after Stopped (same, unchanged, there) made = record {
  met = stopped id asked;
  text = refl;
  slip = refl;
  heard = refl;
  plain = refl;
  known = (made, same, there);
  refused = ap (λ (a : Answer). a.refused) unchanged;
}
denies looks base old new id asked before after OutOfMemory (same, (list, (prefix, is))) made =
    let shown = ap (λ (b : Bool). if b then no_text id OutOfMemory else report_reply id (run base list).panel.count asked (look (run base list) asked)) is.0 in
    record {
      met = look_refused id asked list NoMemory;
      text = shown;
      slip = refl;
      heard = refl;
      plain = refl;
      known = ((_, made, shown), prefix, same);
      refused = is.1.2 ∙ sym (ap (λ (b : Bool). if b then one_more before.refused else before.refused) is.0);
    }
denies looks base old new id asked before after refusal refused made =
    let list = refused.1.0 in
    let is = refused.1.1.1 in
    let shown = ap (report_reply id (run base list).panel.count asked) is.0 in
    record {
      met = look_refused id asked list Nothing;
      text = shown;
      slip = refl;
      heard = refl;
      plain = refl;
      known = ((_, made, shown), refused.1.1.0, refused.0);
      refused = ap (λ (a : Answer). a.refused) is.1;
    }
