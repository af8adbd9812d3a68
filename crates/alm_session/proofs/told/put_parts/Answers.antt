use Rattle.std.proofs.Common.{◌≡◌, ◌<◌, ◌+◌, [], length, take, ap, arith, rules, length-append, ◌∙◌}
use Rattle.std.specs.Prelude.{vec_len, vec_capacity, get_or}
use Rattle.std.proofs.lemmas.List.Folds.{length-flat_map-take}
use Rattle.alm_lines.specs.Parts.{part_text, text_of_parts}
use Rattle.alm_lines.specs.declared.part.Part.{Part}
use Rattle.alm_lines.specs.declared.part.Part.TheVariants.{Word}
use Rattle.alm_lines.proofs.Prefixes.{on_err}
use Rattle.alm_session.proofs.told.put_parts.Goals as goal

-- what follows the end of a list of parts
abbrev nothing : Part
nothing = Word (record { ref_ptr = (0, 0); now = [] })

pub returns-in_err-put_part-clause-full : goal.returns-in_err-put_part-clause-full
returns-in_err-put_part-clause-full c =
    let prefix = length-flat_map-take part_text c.args.parts.now c.loop-part.part-index nothing (search rules) in
    let len : length c.loop-part.text.items ≡ length c.args.text.now.items + length (text_of_parts (take c.loop-part.part-index c.args.parts.now)) = ap length c.loop-part.invariant.0 ∙ length-append c.args.text.now.items _ in
    let full : vec_capacity c.loop-part.text < vec_len c.loop-part.text + length (part_text (get_or c.args.parts.now c.loop-part.part-index nothing)) = search rules in
    let all : vec_capacity c.args.text.now < vec_len c.args.text.now + length (text_of_parts c.args.parts.now) = omega (arith, prefix, len, full, c.loop-part.text.ok, c.args.text.now.ok, c.loop-part.invariant.1) in
    on_err _ all
