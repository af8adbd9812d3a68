use Rattle.std.proofs.Common.{Some, [], ◌∷◌, ◌++◌}
use Rattle.std.proofs.Math.Logic.{∥∥₁_map}
use Rattle.alm_stack.specs.Stacks.{kept_of, stands_of}
use Rattle.alm_program.proofs.Judging.{judged_more}
use Rattle.alm_program.proofs.device_stack.DeviceStackBackend.submit.Goals as goal

pub invariant_of-self : goal.invariant_of-self
invariant_of-self g c =
    let was = c.args.self.now in
    let r = c.args.request.now in
    let e = c.submit.ensures in
    record {
      honest = ∥∥₁_map was.honest (λ both. (λ honest. e.honest.0 (both.0 honest), λ honest. both.1 (e.honest.1 honest)));
      judged = ∥∥₁_map was.judged (λ are. (
        are.0 ++ record { request = r; result = c.submit.result } ∷ [],
        judged_more (Some g.J.DeskId.base) (g.J.DeskId.base ∷ []) are.0 (stands_of was.stack) (kept_of was.stack) r c.submit.result (stands_of c.submit.new.self) (kept_of c.submit.new.self) are.1 e.judged e.stored,
      ));
    }
