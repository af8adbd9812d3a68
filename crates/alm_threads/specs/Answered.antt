-- Slots with no request or receipt left.
use Rattle.std.specs.Prelude.{◌≡◌, ℕ, List, Option, Some, None, slice_get}
use Rattle.alm_rings.specs.declared.slot_report.SlotReport.{SlotReport}

-- there is a report: all that was sent was taken, and all that was taken was answered
abbrev pub IsSlotAnswered : Option SlotReport → Type 0
IsSlotAnswered None = ⊥
IsSlotAnswered (Some r) = (r.sent ≡ r.taken) × (r.taken ≡ r.released)

abbrev pub AllAnswered : List (Option SlotReport) → Type 0
AllAnswered reports = (k : ℕ) (report : Option SlotReport) → slice_get reports k ≡ Some report → IsSlotAnswered report
