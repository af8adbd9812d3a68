use Rattle.std.proofs.Common.{◌<◌, [], ◌∷◌, length, rules}
use Rattle.alm_lines.proofs.Flattened.{cut_in_item}
use Rattle.alm_lines.proofs.Prefixes.{prints_err}
use Rattle.alm_program.specs.Faults.{printed_byte}
use Rattle.alm_program.proofs.fault_line.print_key.Goals as goal

pub returns-in_err-put : goal.returns-in_err-put
returns-in_err-put g c =
    let in_range : c.loop-byte.byte-index < length c.args.key.now = search rules in
    let cut = rw c.printed_byte.ensures at c.in_err-put.ensures in
    prints_err _ c.from_residual.ensures.0 (cut_in_item (λ b. printed_byte b ∷ []) c.args.key.now c.loop-byte.byte-index 0 _ _ _ in_range c.loop-byte.invariant cut)
