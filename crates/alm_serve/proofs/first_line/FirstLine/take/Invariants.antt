use Rattle.std.proofs.Common.{List, ℕ, ◌++◌, take}
use Rattle.alm_serve.specs.Beginnings.{KnowsLine}
use Rattle.alm_serve.proofs.first_line.FirstLine.take.Given as goal

abbrev pub invariant-loop-byte : goal.invariant-loop-byte
invariant-loop-byte l = record {
  knows : (before : List ℕ) → KnowsLine before l.fn.self.has_begun l.fn.self.has_ended l.fn.self.has_space l.fn.self.word.items
      → KnowsLine (before ++ take l.byte-index l.came) l.self.has_begun l.self.has_ended l.self.has_space l.self.word.items;
}
