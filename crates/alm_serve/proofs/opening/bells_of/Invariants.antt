use Rattle.std.proofs.Common.{◌≡◌}
use Rattle.std.specs.Prelude.{vec_len}
use Rattle.alm_serve.proofs.opening.bells_of.Given as goal

-- as many bells as ports
abbrev pub invariant-loop-bound : goal.invariant-loop-bound
invariant-loop-bound l = vec_len l.bells ≡ l.bound-index
