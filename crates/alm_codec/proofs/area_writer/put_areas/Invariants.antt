use Rattle.std.proofs.Common.{◌≡◌, ◌+◌, ◌*◌, take}
use Rattle.alm_codec.specs.Image.{area_texts}
use Rattle.alm_codec.specs.Writing.{Wrote}
use Rattle.alm_codec.proofs.area_writer.put_areas.Given as goal

abbrev pub invariant-loop-area : goal.invariant-loop-area
invariant-loop-area g l = record {
  end : l.end ≡ l.fn.at + l.area * 4801;
  text : Wrote l.fn.out l.out l.fn.at l.end (area_texts (take l.area (g.P.Alarms.plant l.plant).floods) (take l.area (g.P.Alarms.plant l.plant).kept.ages));
}
