use Rattle.std.proofs.Common.{◌≡◌, ◌≤◌, ◌++◌, take}
use Rattle.std.specs.Prelude.{vec_capacity}
use Rattle.alm_lines.specs.Parts.{text_of_parts}
use Rattle.alm_session.proofs.told.put_parts.Given as goal

-- the parts so far were put
abbrev pub invariant-loop-part : goal.invariant-loop-part
invariant-loop-part l = (l.text.items ≡ l.initial.text.items ++ text_of_parts (take l.part-index l.parts)) × (vec_capacity l.initial.text ≤ vec_capacity l.text)
