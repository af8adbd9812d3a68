use Rattle.std.proofs.Common.{◌≡◌, take}
use Rattle.std.specs.List.{flat_map, range_with_len}
use Rattle.std.specs.Io.KnownBytes.{Appends}
use Rattle.alm_export.specs.Showing.{area_line}
use Rattle.alm_export.proofs.showing.show_areas.Given as goal

-- the lines so far were written, and nothing failed
abbrev pub invariant-loop-area : goal.invariant-loop-area
invariant-loop-area g l =
    Appends (g.W.Write.contents l.initial.writer.inner) (g.W.Write.contents l.writer.inner) (flat_map (area_line (g.P.Alarms.plant l.fn.plant)) (take l.area (range_with_len 0 l.fn.count)))
    × (l.writer.failed ≡ l.initial.writer.failed)
    × (l.answer.refused ≡ l.initial.answer.refused)
