-- Sizes stay as they are.
use Rattle.std.proofs.Common.{◌≡◌, ◌+◌, ◌-◌, ◌^◌, ◌<◌, ◌≤◌, ℕ, ◌∙◌, inl, inr, sym, subst}
use Rattle.std.specs.Prelude.{slice_index}
use Rattle.std.proofs.lemmas.Bool.{cases_lt}
use Rattle.std.proofs.lemmas.List.{length-map}
use Rattle.alm_model.specs.Keeping.{ages_after, one_younger}
use Rattle.alm_model.proofs.Measured.{change-length}
use Rattle.alm_measure.specs.Metrics.{Metrics, after_clock, after_annunciation, window_around}
use Rattle.alm_speed.specs.Sizes.{IsSized}

pub sized-annunciated : (i : ℕ) (m after : Metrics) → (window_around i m + 1 < 2 ^ 64 → after ≡ after_annunciation i m) → (2 ^ 64 ≤ window_around i m + 1 → after ≡ record (after_annunciation i m) { ages = m.ages }) → IsSized m → IsSized after
sized-annunciated i m after counted full s = elim (cases_lt (window_around i m + 1) (2 ^ 64)) [
  | inl h ↦ subst IsSized (sym (counted h)) (record { alarms = s.alarms; areas = change-length m.ages (slice_index m.areas i) one_younger ∙ s.areas })
  | inr h ↦ subst IsSized (sym (full h)) (record { alarms = s.alarms; areas = s.areas })
]

pub sized-advanced : (t : ℕ) (m after : Metrics) → after ≡ after_clock t m → IsSized m → IsSized after
sized-advanced t m after e s = subst IsSized (sym e) (record { alarms = s.alarms; areas = length-map m.ages (ages_after (t - m.now)) ∙ s.areas })
