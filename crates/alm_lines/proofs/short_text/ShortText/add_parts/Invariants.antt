use Rattle.std.proofs.Common.{◌≡◌, take, ◌++◌}
use Rattle.alm_lines.specs.Parts.{text_of_parts}
use Rattle.alm_lines.proofs.short_text.ShortText.add_parts.Given as goal

-- the parts so far are in the text
abbrev pub invariant-loop-part : goal.invariant-loop-part
invariant-loop-part l = l.self ≡ l.fn.self ++ text_of_parts (take l.part-index l.parts)
