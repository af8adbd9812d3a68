use Rattle.std.proofs.Common.{◌≡◌, ℕ, List, [], ◌∷◌, ◌++◌, length, ap, append-nil}
use Rattle.std.specs.Fmt.{decimal}
use Rattle.alm_lines.specs.Reply.{with_spaces}
use Rattle.alm_lines.proofs.Prefixes.{prints_err, prints_then, prints_same, cut_in_first, cut_same}
use Rattle.alm_lines.proofs.printing.print_list.Goals as goal

-- a length and the numbers after it
joined : (n rest : List ℕ) → (32 ∷ (n ++ [])) ++ rest ≡ 32 ∷ (n ++ rest)
joined n rest = ap (λ (t : List ℕ). 32 ∷ (t ++ rest)) (append-nil n)

pub returns-in_err-put_each : goal.returns-in_err-put_each
returns-in_err-put_each g c =
    prints_err _ c.from_residual.ensures.0 (cut_same _ (joined (decimal (length c.args.list.now)) (with_spaces c.args.list.now)) (cut_in_first c.in_err-put_each.ensures (with_spaces c.args.list.now)))

pub returns : goal.returns
returns g c =
    prints_same _ _ _ _ (joined (decimal (length c.args.list.now)) (with_spaces c.args.list.now)) (prints_then _ _ (32 ∷ (decimal (length c.args.list.now) ++ [])) c.in_ok-put_each.ensures _ (with_spaces c.args.list.now) _ c.print_spaced.ensures)
