-- What a look at what happened comes to.
use Rattle.std.proofs.Common.{◌≡◌, ◌≤◌, ◌+◌, ◌-◌, ◌∙◌, ℕ, List, [], ◌∷◌, Option, refl, sym, ap, subst, arith, length, drop, length-take}
use Rattle.std.specs.Prelude.{Ok, Err}
use Rattle.alm_types.specs.declared.action.Action.{Action}
use Rattle.alm_types.specs.declared.event.Event.{Event}
use Rattle.alm_types.specs.Counts.{one_more}
use Rattle.alm_types.specs.declared.logged_action.LoggedAction.{LoggedAction}
use Rattle.alm_types.specs.declared.refusal.Refusal.{Refusal}
use Rattle.alm_types.specs.declared.refusal.Refusal.TheVariants.{Stopped, Forgotten}
use Rattle.alm_model.specs.Judging.{logged_actions}
use Rattle.alm_model.specs.Plant.{Condensed}
use Rattle.alm_model.proofs.Legal.{actions_append}
use Rattle.alm_events.specs.Events.{asked_after, told_after, events_from}
use Rattle.alm_events.specs.declared.recalled.Recalled.{Recalled}
use Rattle.alm_lines.specs.Reply.{no_text}
use Rattle.alm_lines.specs.Since.{recalled_text}
use Rattle.alm_board.specs.PrefixesOf.{IsPrefixOf}
use Rattle.alm_board.specs.Recalls.{RecallAnswers, TellsAfter}
use Rattle.alm_board.proofs.PrefixOfLaws.{prefix_of_joined, rest_of}
use Rattle.alm_session.specs.Turns.{LineAnswer, forgotten, recall_stopped, by_recall, answer_text, recall, recalled_of, since_told, kinds, heards, unasked_receipts, Learns, Looks, refused_next}

-- actions of a prefix are a prefix
pub actions_prefix : (xs ys : List LoggedAction) → IsPrefixOf xs ys → IsPrefixOf (logged_actions xs) (logged_actions ys)
actions_prefix xs ys prefix =
    prefix_of_joined (logged_actions xs) (logged_actions (drop (length xs) ys)) (logged_actions ys) (sym (actions_append xs (drop (length xs) ys)) ∙ ap logged_actions (rest_of xs ys prefix))

known_prefix : (known : List Action) (xs ys : List LoggedAction) → logged_actions xs ≡ known → IsPrefixOf xs ys → IsPrefixOf known (logged_actions ys)
known_prefix known xs ys same prefix = subst (λ l. IsPrefixOf l (logged_actions ys)) same (actions_prefix xs ys prefix)

-- at most 256 events are reported
pub few_told : (base : Condensed) (list : List LoggedAction) (n : ℕ) (events : List Event) → events ≡ told_after base list n → length events ≤ 256
few_told base list n events is = omega (arith, ap length is, length-take 256 (drop (n - base.panel.count) (events_from base list)))

same_recalled : (told : Recalled) (count first : ℕ) → told.count ≡ count → told.first ≡ first → told ≡ record { count = count; first = first }
same_recalled told count first c f = ap {B = Recalled} (λ n. record { count = n; first = told.first }) c ∙ ap {B = Recalled} (λ n. record { count = count; first = n }) f

-- what is reported answers its line
told_is : (base : Condensed) (list : List LoggedAction) (n : ℕ) (events : List Event) (told : Recalled) → TellsAfter base list n events told → told ≡ recalled_of base list n
told_is base list n events told t = same_recalled told (base.panel.count + length list) (one_more n) t.count t.first

pub told_text : (base : Condensed) (id : ℕ) (list : List LoggedAction) (n : ℕ) (events : List Event) (told : Recalled) → TellsAfter base list n events told → recalled_text id told.count told.first events ≡ since_told base id list n
told_text base id list n events told t =
    ap (λ c. recalled_text id c told.first events) t.count
    ∙ (ap (λ f. recalled_text id (base.panel.count + length list) f events) t.first ∙ ap (λ es. recalled_text id (base.panel.count + length list) (one_more n) es) t.events_are)

pub tells : (looks : Looks) (base : Condensed) (known next : List Action) (old new : List LoggedAction) (id : ℕ) (after : Option ℕ) (events : List Event) (told : Recalled)
    → logged_actions old ≡ known → logged_actions new ≡ next → IsPrefixOf old new → TellsAfter base new (asked_after base new after) events told → looks.recalled after (Ok told) → Learns looks base known (by_recall id after new) next
tells looks base known next old new id after events told was is prefix t made =
    (subst (λ (r : Recalled). looks.recalled after (Ok r)) (told_is base new (asked_after base new after) events told t) made, t.remembered, known_prefix known old new was prefix, sym is)

-- a recall that is refused answers its line
pub record IsUntold (looks : Looks) (base : Condensed) (known next : List Action) (id : ℕ) (after : Option ℕ) (refusal : Refusal) : Type 0 where
  pub met : LineAnswer
  pub text : answer_text base met ≡ no_text id refusal
  pub slip : kinds met ≡ recall id after ∷ []
  pub heard : heards met ≡ []
  pub plain : unasked_receipts met ≡ []
  pub learnt : Learns looks base known met next
  pub refused : (n : ℕ) → n ≡ refused_next base n met

pub untold : (looks : Looks) (base : Condensed) (known next : List Action) (old new : List LoggedAction) (id : ℕ) (after : Option ℕ) (before events : List Event) (refusal : Refusal)
    → logged_actions old ≡ known → logged_actions new ≡ next → RecallAnswers base old new after before events (Err refusal) → looks.recalled after (Err refusal) → IsUntold looks base known next id after refusal
untold looks base known next old new id after before events Forgotten was is (same, unchanged, (list, (prefix, gone))) made = record {
  met = forgotten id after list;
  text = refl;
  slip = refl;
  heard = refl;
  plain = refl;
  learnt = (made, gone, known_prefix known old list was prefix, sym is ∙ (ap logged_actions same ∙ was));
  refused = λ n. refl;
}
untold looks base known next old new id after before events Stopped was is (same, unchanged) made = record {
  met = recall_stopped id after;
  text = refl;
  slip = refl;
  heard = refl;
  plain = refl;
  learnt = (made, sym is ∙ (ap logged_actions same ∙ was));
  refused = λ n. refl;
}
untold looks base known next old new id after before events refusal was is refused made = absurd refused
