use Rattle.std.proofs.Common.{◌≡◌, take}
use Rattle.std.specs.List.{flat_map, range_with_len}
use Rattle.std.specs.Io.KnownBytes.{Appends}
use Rattle.alm_export.specs.Showing.{alarm_line}
use Rattle.alm_export.proofs.showing.show_alarms.Given as goal

-- the lines so far were written, and nothing failed
abbrev pub invariant-loop-number : goal.invariant-loop-number
invariant-loop-number g l =
    Appends (g.W.Write.contents l.initial.writer.inner) (g.W.Write.contents l.writer.inner) (flat_map (alarm_line (g.P.Alarms.plant l.fn.plant)) (take l.number (range_with_len 0 l.fn.count)))
    × (l.writer.failed ≡ l.initial.writer.failed)
    × (l.answer.refused ≡ l.initial.answer.refused)
