-- Metrics of plants.
use Rattle.std.proofs.Common.{◌≡◌, ◌≤◌, ℕ, List, length, refl, ap, sym, ◌∙◌}
use Rattle.std.specs.Prelude.{filter, slice_get}
use Rattle.std.specs.List.{range_with_len}
use Rattle.std.proofs.lemmas.List.FromFn.{length-map-range_with_len}
use Rattle.alm_types.specs.Tables.{Listing, IsTable}
use Rattle.alm_types.specs.declared.action.Action.{Action}
use Rattle.alm_model.specs.Condense.{IsRecorded, condense}
use Rattle.alm_model.specs.Counted.{IsCounted, new_whole, run_whole}
use Rattle.alm_model.specs.Keeping.{change, in_brief, in_full, one_younger, recent}
use Rattle.alm_model.specs.Lists.{is_frequent, list_of, moments_in}
use Rattle.alm_model.specs.New.{new_plant}
use Rattle.alm_model.specs.Plant.{Condensed, RecordedPlant}
use Rattle.alm_model.specs.Rules.{AreAdmitted, KeepsRules}
use Rattle.alm_model.specs.Step.{later, run, settle}
use Rattle.alm_model.specs.declared.list.List.TheVariants.{Chatter}
use Rattle.alm_model.proofs.Condensing.{ages-note, moments-note}
use Rattle.alm_model.proofs.Together.{cond-later, cond-settle, cond-windows, past-recorded}
use Rattle.alm_model.proofs.Whole.{all-alarms, along-new, chatter-same, counted-new, GoesAlong}
use Rattle.alm_measure.specs.Counted.{AreCounted, with_annunciation}
use Rattle.alm_measure.specs.Metrics.{after_clock, after_annunciation, chattering_by_moments, metrics_of, settled_by_windows}
use Rattle.alm_measure.proofs.Areas.{area-at}

-- an alarm is annunciated in a plant
pub annunciated-along : (q : Condensed) (i : ℕ) → metrics_of (record q { kept = in_brief.note q.panel i q.kept }) ≡ after_annunciation i (metrics_of q)
annunciated-along q i = ap (λ area. record (metrics_of q) { ages = change q.kept.ages area one_younger; moments = change q.kept.moments i (recent q.panel.now) }) (area-at q.panel.attrs i)

-- the alarms of a plant that chatter
chattering-same : (q : Condensed) → length q.kept.moments ≡ length q.panel.rows → length q.panel.attrs ≡ length q.panel.rows → chattering_by_moments (metrics_of q) ≡ list_of Chatter q
chattering-same q moments attrs = ap (filter (λ i. is_frequent q.panel.now (moments_in (slice_get q.kept.moments i)))) (ap (range_with_len 0) moments ∙ sym (all-alarms q.panel attrs))

pub chattering-along : (q : Condensed) → KeepsRules q → chattering_by_moments (metrics_of q) ≡ list_of Chatter q
chattering-along q rules = chattering-same q rules.recent rules.attrs

-- a call, and the same by a new count
cond-noted : (p : RecordedPlant) (i : ℕ) → condense (with_annunciation i p) ≡ record (condense p) { kept = in_brief.note p.panel i (condense p).kept }
cond-noted p i =
    let ages = ages-note p.panel p.kept i 599 (length p.floods) in
    let moments = moments-note p.kept i p.panel.now (length p.panel.attrs) in
    λ j. record { panel = p.panel; kept = record { ages = ages j; moments = moments j }; floods = p.floods }

pub annunciated-anew : (p : RecordedPlant) (i : ℕ) → after_annunciation i (metrics_of (condense p)) ≡ metrics_of (condense (with_annunciation i p))
annunciated-anew p i = sym (ap metrics_of (cond-noted p i) ∙ annunciated-along (condense p) i)

pub advanced-anew : (p : RecordedPlant) (t : ℕ) → IsRecorded p.panel.now p.kept → p.panel.now ≤ t → after_clock t (metrics_of (condense p)) ≡ metrics_of (condense (later in_full t p))
advanced-anew p t r l = sym (ap metrics_of (cond-later p t (past-recorded p.panel.now p.kept r) l))

pub settled-anew : (p : RecordedPlant) → IsRecorded p.panel.now p.kept → settled_by_windows (metrics_of (condense p)) ≡ metrics_of (condense (settle in_full p))
settled-anew p r = sym (ap metrics_of (cond-settle p (past-recorded p.panel.now p.kept r)))

pub counted-anew : (p : RecordedPlant) → IsRecorded p.panel.now p.kept → length p.panel.attrs ≡ length p.panel.rows → AreCounted p (metrics_of (condense p))
counted-anew p r e = record {
  now = refl;
  ages = refl;
  windows = cond-windows p (past-recorded p.panel.now p.kept r);
  floods = refl;
  moments = refl;
  chattering = chattering-same (condense p) (length-map-range_with_len _ 0 (length p.panel.attrs) ∙ e) e ∙ chatter-same p r e;
}

-- what changes along with a whole plant is counted from it
counted-along : (p : RecordedPlant) (q : Condensed) → GoesAlong p q → IsCounted p q → AreCounted p (metrics_of q)
counted-along p q g c = record {
  now = sym (ap (λ x. x.panel.now) g.same);
  ages = sym (ap (λ x. x.kept.ages) g.same);
  windows = c.windows;
  floods = c.floods;
  moments = sym (ap (λ x. x.kept.moments) g.same);
  chattering = chattering-along q g.rules ∙ c.chatter;
}

pub counted-run : (t : Listing) (actions : List Action) → IsTable t → AreAdmitted (new_plant t) actions → AreCounted (run_whole (new_whole t) actions) (metrics_of (run (new_plant t) actions))
counted-run t actions h all = counted-along (run_whole (new_whole t) actions) (run (new_plant t) actions) (along-new t actions h all) (counted-new t actions h all)
