use Rattle.std.proofs.Common.{take}
use Rattle.std.specs.Io.KnownBytes.{Appends}
use Rattle.alm_lines.specs.Parts.{text_of_parts}
use Rattle.alm_lines.proofs.part.put_each.Given as goal

-- the parts so far were written
abbrev pub invariant-loop-part : goal.invariant-loop-part
invariant-loop-part g l = Appends (g.W.Write.contents l.initial.writer) (g.W.Write.contents l.writer) (text_of_parts (take l.part-index l.parts))
