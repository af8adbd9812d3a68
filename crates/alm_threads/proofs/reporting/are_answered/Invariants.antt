use Rattle.std.specs.Prelude.{◌≡◌, ℕ, ◌<◌, Option, Some, slice_get}
use Rattle.alm_rings.specs.declared.slot_report.SlotReport.{SlotReport}
use Rattle.alm_threads.specs.Answered.{IsSlotAnswered}
use Rattle.alm_threads.proofs.reporting.are_answered.Given as goal

-- the slots so far are answered
abbrev pub invariant-loop-slot : goal.invariant-loop-slot
invariant-loop-slot l = (k : ℕ) (r : Option SlotReport) → k < l.slot-index → slice_get l.slots k ≡ Some r → IsSlotAnswered r
