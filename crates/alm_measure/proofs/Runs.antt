-- Metrics after calls.
use Rattle.std.proofs.Common.{◌≡◌, List, [], ◌∷◌, length, subst, sym, ap, arith}
use Rattle.std.specs.Prelude.{fold}
use Rattle.alm_types.specs.Tables.{Listing, IsTable}
use Rattle.alm_model.specs.Condense.{IsRecorded, condense}
use Rattle.std.proofs.lemmas.List.{length-replicate}
use Rattle.alm_model.specs.Counted.{new_whole}
use Rattle.alm_model.specs.New.{at_rest}
use Rattle.alm_model.specs.Keeping.{in_full}
use Rattle.alm_model.specs.Plant.{RecordedPlant}
use Rattle.alm_model.specs.Step.{later, settle}
use Rattle.alm_model.proofs.Together.{recorded-later}
use Rattle.alm_model.proofs.Whole.{along-new}
use Rattle.alm_measure.specs.Calls.{MeasureCall, Annunciated, Advanced, Settled, GoForward, after_metrics_call, called_in_full}
use Rattle.alm_measure.specs.Counted.{AreCounted, with_annunciation}
use Rattle.alm_measure.specs.Metrics.{Metrics, after_clock, after_annunciation, metrics_of, new_metrics, settled_by_windows}
use Rattle.alm_measure.proofs.Plants.{advanced-anew, annunciated-anew, counted-anew, settled-anew}

-- metrics that a first call makes continue as they do by a new count
goes-on : (p : RecordedPlant) (calls : List MeasureCall) (m : Metrics) → m ≡ metrics_of (condense p) → AreCounted (fold called_in_full p calls) (fold after_metrics_call (metrics_of (condense p)) calls) → AreCounted (fold called_in_full p calls) (fold after_metrics_call m calls)
goes-on p calls m e c = subst (λ (x : Metrics). AreCounted (fold called_in_full p calls) (fold after_metrics_call x calls)) (sym e) c

pub calls-counted : (p : RecordedPlant) (calls : List MeasureCall) → IsRecorded p.panel.now p.kept → length p.panel.attrs ≡ length p.panel.rows → GoForward p.panel.now calls → AreCounted (fold called_in_full p calls) (fold after_metrics_call (metrics_of (condense p)) calls)
calls-counted p [] r e f = counted-anew p r e
calls-counted p (Annunciated i ∷ calls) r e f =
    goes-on (with_annunciation i p) calls (after_annunciation i (metrics_of (condense p))) (annunciated-anew p i) (calls-counted (with_annunciation i p) calls (omega arith, r) e f)
calls-counted p (Advanced t ∷ calls) r e f =
    goes-on (later in_full t p) calls (after_clock t (metrics_of (condense p))) (advanced-anew p t r f.0) (calls-counted (later in_full t p) calls (recorded-later p.panel.now t p.kept f.0 r) e f.1)
calls-counted p (Settled ∷ calls) r e f =
    goes-on (settle in_full p) calls (settled_by_windows (metrics_of (condense p))) (settled-anew p r) (calls-counted (settle in_full p) calls r e f)

-- from a new measure on
pub calls-counted-new : (t : Listing) (calls : List MeasureCall) → IsTable t → GoForward 0 calls → AreCounted (fold called_in_full (new_whole t) calls) (fold after_metrics_call (new_metrics t) calls)
calls-counted-new t calls h f =
    let new = along-new t [] h tt in
    let size : length (new_whole t).panel.attrs ≡ length (new_whole t).panel.rows = sym (length-replicate (length t.alarms) at_rest) in
    goes-on (new_whole t) calls (new_metrics t) (sym (ap metrics_of new.same)) (calls-counted (new_whole t) calls new.recorded size f)
