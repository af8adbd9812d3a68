use Rattle.std.proofs.Common.{take}
use Rattle.std.specs.Io.KnownBytes.{Appends}
use Rattle.alm_program.specs.Faults.{key_text}
use Rattle.alm_program.proofs.fault_line.print_key.Given as goal

-- the bytes so far were written
abbrev pub invariant-loop-byte : goal.invariant-loop-byte
invariant-loop-byte g l = Appends (g.W.Write.contents l.initial.writer) (g.W.Write.contents l.writer) (key_text (take l.byte-index l.key))
