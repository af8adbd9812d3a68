use Rattle.std.proofs.Common.{[]}
use Rattle.alm_program.proofs.device_stack.DeviceStack.new.Goals as goal

pub invariant_of-result : goal.invariant_of-result
invariant_of-result g c = record {
  honest = c.requires.honest;
  judged = ∣ ([], (c.requires.stands, c.requires.kept)) ∣₁;
}
