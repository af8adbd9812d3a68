-- Why a run stops with work left.
use Rattle.std.specs.Prelude.{◌≡◌, ◌≤◌, ℕ, Bool, true}
use Rattle.alm_threads.specs.declared.stop_cause.StopCause.{StopCause}
use Rattle.alm_threads.specs.declared.stop_cause.StopCause.TheVariants.{Store, Publishing}

-- how many publishes in a row are refused before a run stops
abbrev pub most_refusals : ℕ
most_refusals = 1000

-- a step of the store failed; or this number of publishes in a row were refused, 1,000 at least
abbrev pub StopsFor : StopCause → (failed : Bool) → (refused : ℕ) → Type 0
StopsFor Store failed refused = failed ≡ true
StopsFor (Publishing n) failed refused = (n ≡ refused) × (most_refusals ≤ n)
