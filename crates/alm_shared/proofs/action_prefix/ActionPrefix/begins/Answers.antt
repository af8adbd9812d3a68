use Rattle.std.proofs.Common.{◌≤◌, arith, length}
use Rattle.std.proofs.lemmas.Bool.{leb-true, le-leb}
use Rattle.alm_board.proofs.PrefixOfLaws.{prefix_of_prefix, prefix_of_length}
use Rattle.alm_moments.proofs.Prefixes.{prefix_shorter}
use Rattle.alm_shared.proofs.action_prefix.ActionPrefix.begins.Goals as goal

pub returns : goal.returns
returns g c =
    let xs = c.args.self.now in
    let ys = c.args.other.now in
    let within = λ (le : length xs ≤ length ys). prefix_of_prefix xs ys (prefix_shorter xs ys c.longer.result c.longer.ensures.this c.longer.ensures.that le) in (
      λ is. within (omega (arith, leb-true _ _ is, c.len.ensures.length, c.len-2.ensures.length)),
      λ prefix. le-leb _ _ (omega (arith, prefix_of_length xs ys prefix, c.len.ensures.length, c.len-2.ensures.length)),
    )
