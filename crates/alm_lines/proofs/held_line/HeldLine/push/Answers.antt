use Rattle.alm_lines.proofs.Streams.{pushed, kept}
use Rattle.alm_lines.proofs.held_line.HeldLine.push.Goals as goal

pub returns-then-self : goal.returns-then-self
returns-then-self g c = rw (← c.self.view_is) (pushed g.row.LIMIT c.self.inside.bytes c.self.inside.len c.args.byte c.self.told c.if-self.true)

pub returns-else-self : goal.returns-else-self
returns-else-self g c = rw (← c.self.view_is) (kept g.row.LIMIT c.self.inside.bytes c.self.inside.len c.args.byte c.self.told c.self.invariant c.if-self.false)
