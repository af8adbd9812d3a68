use Rattle.alm_shared.proofs.durable.Durable.again.Goals as goal

pub invariant_of-result : goal.invariant_of-result
invariant_of-result g c =
    let o = c.args.self.now in
    record {
      held = rw (c.again.ensures, c.again-2.ensures) o.held;
      within = rw (c.again.ensures, c.again-2.ensures) o.within;
    }
