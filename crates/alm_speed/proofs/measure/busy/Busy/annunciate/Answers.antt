use Rattle.alm_speed.proofs.Sizing.{sized-annunciated}
use Rattle.alm_speed.proofs.measure.busy.Busy.annunciate.Goals as goal

pub invariant_of-self : goal.invariant_of-self
invariant_of-self c = record { sized = sized-annunciated c.args.number c.args.self.now.measure c.annunciated.new.self c.annunciated.ensures.counted c.annunciated.ensures.full c.args.self.now.sized }
