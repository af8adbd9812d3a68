use Rattle.left_right.specs.Sides.{view}
use Rattle.alm_shared.proofs.publisher.show_next.Goals as goal

pub publish_as-requires : goal.publish_as-requires
publish_as-requires g c = λ next is views kept at. (view c.args.writer.desk.place, tt, tt)
