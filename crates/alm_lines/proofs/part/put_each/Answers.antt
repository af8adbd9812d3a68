use Rattle.std.proofs.Common.{◌<◌, length, rules}
use Rattle.alm_lines.specs.Parts.{part_text}
use Rattle.alm_lines.proofs.Flattened.{wrote_more, cut_in_item}
use Rattle.alm_lines.proofs.Prefixes.{prints_err}
use Rattle.alm_lines.proofs.part.put_each.Goals as goal

pub returns-in_err-put_part : goal.returns-in_err-put_part
returns-in_err-put_part g c =
    let in_range : c.loop-part.part-index < length c.args.parts.now = search rules in
    prints_err _ c.from_residual.ensures.0 (cut_in_item part_text c.args.parts.now c.loop-part.part-index _ _ _ _ in_range c.loop-part.invariant c.in_err-put_part.ensures)

pub loop-part-preserved : goal.loop-part-preserved
loop-part-preserved g c =
    let in_range : c.loop-part.part-index < length c.args.parts.now = search rules in
    wrote_more part_text c.args.parts.now c.loop-part.part-index _ _ _ _ in_range c.loop-part.invariant c.in_ok-put_part.ensures
