use Rattle.std.proofs.Common.{take}
use Rattle.std.specs.Io.KnownBytes.{Appends}
use Rattle.std.specs.List.{flat_map}
use Rattle.alm_lines.specs.Since.{event_text}
use Rattle.alm_lines.proofs.events.print_events.Given as goal

-- the events so far were written
abbrev pub invariant-loop-event : goal.invariant-loop-event
invariant-loop-event g l = Appends (g.W.Write.contents l.initial.writer) (g.W.Write.contents l.writer) (flat_map event_text (take l.event-index l.events))
