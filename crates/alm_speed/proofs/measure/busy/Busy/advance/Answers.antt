use Rattle.alm_speed.proofs.Sizing.{sized-advanced}
use Rattle.alm_speed.proofs.measure.busy.Busy.advance.Goals as goal

pub invariant_of-self : goal.invariant_of-self
invariant_of-self c = record { sized = sized-advanced c.in-Some.next c.args.self.now.measure c.advance.new.self c.advance.ensures c.args.self.now.sized }
