-- Calls that change a measure, one after the other.
use Rattle.std.specs.Prelude.{ℕ, ◌≤◌, List, [], ◌∷◌}
use Rattle.alm_model.specs.Keeping.{in_full}
use Rattle.alm_model.specs.Plant.{RecordedPlant}
use Rattle.alm_model.specs.Step.{later, settle}
use Rattle.alm_measure.specs.Counted.{with_annunciation}
use Rattle.alm_measure.specs.Metrics.{Metrics, after_clock, after_annunciation, settled_by_windows}

-- an alarm is annunciated, the clock moves to a moment, the floods are settled
pub data MeasureCall : Type 0 where
  Annunciated : ℕ → MeasureCall
  Advanced : ℕ → MeasureCall
  Settled : MeasureCall

-- what a call makes of the metrics
abbrev pub after_metrics_call : Metrics → MeasureCall → Metrics
after_metrics_call m (Annunciated alarm) = after_annunciation alarm m
after_metrics_call m (Advanced t) = after_clock t m
after_metrics_call m Settled = settled_by_windows m

-- the same with the list of all annunciations
abbrev pub called_in_full : RecordedPlant → MeasureCall → RecordedPlant
called_in_full p (Annunciated alarm) = with_annunciation alarm p
called_in_full p (Advanced t) = later in_full t p
called_in_full p Settled = settle in_full p

-- calls by which the clock never moves back
abbrev pub GoForward : ℕ → List MeasureCall → Type 0
GoForward now [] = Unit {0}
GoForward now (Annunciated alarm ∷ calls) = GoForward now calls
GoForward now (Advanced t ∷ calls) = (now ≤ t) × GoForward t calls
GoForward now (Settled ∷ calls) = GoForward now calls
