use Rattle.std.proofs.Common.{◌≡◌, ◌+◌, ◌*◌, [], take}
use Rattle.std.specs.Prelude.{slice_get, unwrap_or}
use Rattle.alm_codec.specs.Image.{words}
use Rattle.alm_codec.specs.Writing.{Wrote}
use Rattle.alm_codec.proofs.area_writer.put_ages.Given as goal

abbrev pub invariant-loop-age : goal.invariant-loop-age
invariant-loop-age g l = record {
  end : l.end ≡ l.fn.at + 8 * l.age;
  text : Wrote l.fn.out l.out l.fn.at l.end (words (take l.age (unwrap_or (slice_get (g.P.Alarms.plant l.plant).kept.ages l.area) [])));
}
