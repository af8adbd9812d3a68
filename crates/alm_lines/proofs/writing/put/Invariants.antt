use Rattle.alm_lines.proofs.Prefixes.{IsUpTo}
use Rattle.alm_lines.proofs.writing.put.Given as goal

-- a prefix was written, and the rest is to come
abbrev pub invariant-loop : goal.invariant-loop
invariant-loop g l = IsUpTo (g.W.Write.contents l.initial.writer) (g.W.Write.contents l.writer) l.bytes l.rest
