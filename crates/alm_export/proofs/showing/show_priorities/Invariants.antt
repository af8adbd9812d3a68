use Rattle.std.proofs.Common.{◌≡◌, ◌≤◌, ◌-◌, take}
use Rattle.std.specs.List.{flat_map, range_with_len}
use Rattle.std.specs.Io.KnownBytes.{Appends}
use Rattle.alm_export.specs.Showing.{priority_line}
use Rattle.alm_export.proofs.showing.show_priorities.Given as goal

-- the lines so far were written, and nothing failed
abbrev pub invariant-loop-priority : goal.invariant-loop-priority
invariant-loop-priority g l =
    Appends (g.W.Write.contents l.initial.writer.inner) (g.W.Write.contents l.writer.inner) (flat_map (priority_line (g.P.Alarms.plant l.fn.plant)) (take (l.priority - 1) (range_with_len 1 4)))
    × (1 ≤ l.priority)
    × (l.writer.failed ≡ l.initial.writer.failed)
    × (l.answer.refused ≡ l.initial.answer.refused)
