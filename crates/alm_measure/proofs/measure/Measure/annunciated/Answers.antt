use Rattle.std.proofs.Common.{rules, ◌≡◌, slice_set}
use Rattle.alm_model.specs.Keeping.{change, recent}
use Rattle.alm_measure.proofs.Areas.{full-stays, written-back}
use Rattle.alm_measure.specs.Shown.{metrics_in}
use Rattle.alm_measure.proofs.measure.Measure.annunciated.Goals as goal

pub returns-clause-full : goal.returns-clause-full
returns-clause-full c = rw (← c.self.view_is) (λ full.
    let stays = full-stays c.args.id.0 c.index.result.now (metrics_in c.self.inside) c.index_mut.result.now c.note.new.self c.index.ensures (search rules) c.self.invariant.0.in_areas c.index_mut.ensures.value c.note.ensures.full full in
    let noted : slice_set c.self.inside.moments.items c.args.id.0 c.note-2.new.self ≡ change c.self.inside.moments.items c.args.id.0 (recent c.self.inside.clock) = written-back c.self.inside.moments.items c.args.id.0 (recent c.self.inside.clock) c.index_mut-2.result.now c.note-2.new.self (search rules) c.index_mut-2.ensures.value c.note-2.ensures in
    search (stays, noted, rules))
