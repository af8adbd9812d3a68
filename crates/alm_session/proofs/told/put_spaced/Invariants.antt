use Rattle.std.proofs.Common.{◌≡◌, ◌≤◌, ◌++◌, take}
use Rattle.std.specs.Prelude.{vec_capacity}
use Rattle.alm_lines.specs.Reply.{with_spaces}
use Rattle.alm_session.proofs.told.put_spaced.Given as goal

-- the numbers so far were put
abbrev pub invariant-loop-number : goal.invariant-loop-number
invariant-loop-number l = (l.text.items ≡ l.initial.text.items ++ with_spaces (take l.number-index l.numbers)) × (vec_capacity l.initial.text ≤ vec_capacity l.text)
