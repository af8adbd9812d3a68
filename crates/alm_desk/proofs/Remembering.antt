-- A desk's moment is the plant's, and what it remembers is what was accepted.
use Rattle.std.proofs.Common.{◌≡◌, ◌∙◌, ℕ, List, [], ◌∷◌, ◌++◌, Option, Some, None, Result, Ok, Err, refl, sym, ap}
use Rattle.std.specs.Prelude.{fold, slice_get}
use Rattle.alm_types.specs.declared.attr.Attr.{Attr}
use Rattle.alm_types.specs.declared.action.Action.{Action}
use Rattle.alm_types.specs.declared.action.Action.TheVariants.{Clock, Value, Ack, Reset, Shelve, Unshelve, Oos, Design, SetPriority, SetSetpoint}
use Rattle.alm_types.specs.declared.event.Event.{Event}
use Rattle.alm_types.specs.declared.refusal.Refusal.{Refusal}
use Rattle.alm_types.specs.declared.verdict.Verdict.TheVariants.{Accepted, Refused}
use Rattle.alm_state.specs.Rows.{State}
use Rattle.alm_state.specs.Outcome.{outcome, without_shelving}
use Rattle.alm_state.specs.declared.outcome.Outcome.{Outcome}
use Rattle.alm_state.specs.declared.outcome.Outcome.TheVariants.{Changed, Annunciated, Shelved}
use Rattle.alm_model.specs.Plant.{Condensed}
use Rattle.alm_model.specs.Lists.{due}
use Rattle.alm_model.specs.Keeping.{in_brief}
use Rattle.alm_model.specs.Step.{with_outcome, with_touched_alarm, touch, unshelve, later, with_effect, with_one_more, step}
use Rattle.alm_events.specs.Events.{most_kept, last}
use Rattle.alm_desk.specs.Answers.{recent_if_accepted}
use Rattle.alm_desk.specs.Backends.{judged_by, if_accepted}
use Rattle.alm_desk.specs.Notebooks.{moment_after}

put_now : (q : Condensed) (i : ℕ) (o : Outcome) → (with_outcome in_brief q i o).panel.now ≡ q.panel.now
put_now q i (Changed s) = refl
put_now q i (Annunciated s) = refl
put_now q i (Shelved s) = refl

touched_now : (q : Condensed) (i : ℕ) (f : Attr → State → Outcome) (a : Option Attr) (s : Option State) → (with_touched_alarm in_brief q i f a s).panel.now ≡ q.panel.now
touched_now q i f (Some a) (Some s) = put_now q i (f a s)
touched_now q i f (Some a) None = refl
touched_now q i f None s = refl

touch_now : (q : Condensed) (i : ℕ) (f : Attr → State → Outcome) → (touch in_brief q i f).panel.now ≡ q.panel.now
touch_now q i f = touched_now q i f (slice_get q.panel.attrs i) (slice_get q.panel.rows i)

unshelves_now : (q : Condensed) (list : List ℕ) → (fold (unshelve in_brief) q list).panel.now ≡ q.panel.now
unshelves_now q [] = refl
unshelves_now q (i ∷ list) = unshelves_now (unshelve in_brief q i) list ∙ touch_now q i (λ a s. without_shelving q.panel.next_stamp s)

acted_now : (q : Condensed) (a : Action) → (with_effect in_brief q a).panel.now ≡ moment_after q.panel.now a
acted_now q (Clock t) = unshelves_now (later in_brief t q) (due t q.panel)
acted_now q (Value i v) = touch_now q i.0 (outcome q.panel.now q.panel.next_stamp (Value i v))
acted_now q (Ack i) = touch_now q i.0 (outcome q.panel.now q.panel.next_stamp (Ack i))
acted_now q (Reset i) = touch_now q i.0 (outcome q.panel.now q.panel.next_stamp (Reset i))
acted_now q (Shelve i s) = touch_now q i.0 (outcome q.panel.now q.panel.next_stamp (Shelve i s))
acted_now q (Unshelve i) = touch_now q i.0 (outcome q.panel.now q.panel.next_stamp (Unshelve i))
acted_now q (Oos i on) = touch_now q i.0 (outcome q.panel.now q.panel.next_stamp (Oos i on))
acted_now q (Design i on) = touch_now q i.0 (outcome q.panel.now q.panel.next_stamp (Design i on))
acted_now q (SetPriority i priority) = refl
acted_now q (SetSetpoint i setpoint) = refl

-- an action moves the plant's clock as it moves the desk's
step_now : (q : Condensed) (a : Action) → (step q a).panel.now ≡ moment_after q.panel.now a
step_now q a = acted_now (with_one_more q) a

-- what is remembered of an action, and the moment after it
pub record IsRemembered (q : Condensed) (x : Result Action Refusal) (slot m : ℕ) (recent : List Event) (a : Action) : Type 0 where
  pub told : last most_kept (recent ++ record { moment = moment_after m a; slot = slot; action = a } ∷ []) ≡ recent_if_accepted q recent slot x
  pub moment : moment_after m a ≡ (if_accepted q x).panel.now

pub remembered : (q : Condensed) (x : Result Action Refusal) (slot count m : ℕ) (recent : List Event) (a : Action) → m ≡ q.panel.now → (judged_by count x).verdict ≡ Accepted a → IsRemembered q x slot m recent a
remembered q (Ok b) slot count m recent a now is =
    let same : b ≡ a = cc is in
    let at : moment_after m a ≡ (step q b).panel.now = ap (λ n. moment_after n a) now ∙ (ap (moment_after q.panel.now) (sym same) ∙ sym (step_now q b)) in
    record {
      told = ap (λ (e : Event). last most_kept (recent ++ e ∷ [])) (cc (at, same));
      moment = at;
    }
remembered q (Err why) slot count m recent a now is = absurd (cc is)

pub record IsLeft (q : Condensed) (x : Result Action Refusal) (slot : ℕ) (recent : List Event) : Type 0 where
  pub told : recent ≡ recent_if_accepted q recent slot x
  pub plant : if_accepted q x ≡ q

pub not_remembered : (q : Condensed) (x : Result Action Refusal) (slot count : ℕ) (recent : List Event) (r : Refusal) (n : ℕ) → (judged_by count x).verdict ≡ Refused r n → IsLeft q x slot recent
not_remembered q (Ok b) slot count recent r n is = absurd (cc is)
not_remembered q (Err why) slot count recent r n is = record { told = refl; plant = refl }
