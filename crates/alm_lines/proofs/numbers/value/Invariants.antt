use Rattle.std.proofs.Common.{◌≡◌, ◌<◌, ◌^◌, drop}
use Rattle.alm_lines.specs.Line.{value, up_to}
use Rattle.alm_lines.proofs.numbers.value.Given as goal

-- the value so far, and that the other digits make the whole of it
abbrev pub invariant-loop-digit : goal.invariant-loop-digit
invariant-loop-digit l = record {
  small : l.value < 2 ^ 63;
  below : 0 < l.digit-index → l.value < l.limit;
  rest : up_to l.limit (value l.value (drop l.digit-index l.digits)) ≡ up_to l.limit (value 0 l.digits);
}
