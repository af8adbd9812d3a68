use Rattle.std.proofs.Common.{sym, ◌∙◌}
use Rattle.alm_shared.proofs.Extents.{tells, refuses}
use Rattle.alm_shared.proofs.extent.Extent.find.Goals as goal

pub returns-else-has : goal.returns-else-has
returns-else-has g c = (c.refuse.ensures, λ list. rw c.refuse.ensures (refuses g.J.RunId.base c.args.query c.args.self.now.named c.args.self.now.measured (sym c.has.ensures ∙ c.if-has.false) list))

pub returns-then-has : goal.returns-then-has
returns-then-has g c = tells g.J.RunId.base c.args.query c.args.self.now.named c.args.self.now.measured (sym c.has.ensures ∙ c.if-has.true)
