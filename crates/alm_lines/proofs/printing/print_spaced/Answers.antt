use Rattle.std.proofs.Common.{◌≡◌, ℕ, List, [], ◌∷◌, ◌++◌, ◌<◌, length, rules, ap, append-nil, ◌∙◌}
use Rattle.std.specs.Fmt.{decimal}
use Rattle.alm_lines.proofs.Flattened.{wrote_more, cut_in_item}
use Rattle.alm_lines.proofs.Prefixes.{prints_err}
use Rattle.alm_lines.proofs.printing.print_spaced.Goals as goal

abbrev one : ℕ → List ℕ
one n = 32 ∷ decimal n

one_text : (n m : ℕ) → n ≡ m → 32 ∷ (decimal n ++ []) ≡ one m
one_text n m e = ap (λ (t : List ℕ). 32 ∷ t) (append-nil (decimal n) ∙ ap decimal e)

pub returns-in_err-put_parts : goal.returns-in_err-put_parts
returns-in_err-put_parts g c =
    let in_range : c.loop-number.number-index < length c.args.numbers.now = search rules in
    let cut = rw (one_text _ _ c.from.ensures) at c.in_err-put_parts.ensures in
    prints_err _ c.from_residual.ensures.0 (cut_in_item one c.args.numbers.now c.loop-number.number-index 0 _ _ _ in_range c.loop-number.invariant cut)

pub loop-number-preserved : goal.loop-number-preserved
loop-number-preserved g c =
    let in_range : c.loop-number.number-index < length c.args.numbers.now = search rules in
    let more = rw (one_text _ _ c.from.ensures) at c.in_ok-put_parts.ensures in
    wrote_more one c.args.numbers.now c.loop-number.number-index 0 _ _ _ in_range c.loop-number.invariant more
