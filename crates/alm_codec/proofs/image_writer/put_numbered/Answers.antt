use Rattle.std.proofs.Common.{[], sym, subst, ◌∙◌, arith}
use Rattle.std.specs.Prelude.{slice_get}
use Rattle.alm_codec.specs.Writing.{Wrote}
use Rattle.std.proofs.lemmas.Option.{slice_get-get_or}
use Rattle.alm_codec.proofs.WrittenImage.{alarm_is, moments_few}
use Rattle.alm_codec.proofs.image_writer.put_numbered.Goals as goal

pub put_alarm-requires-clause-few : goal.put_alarm-requires-clause-few
put_alarm-requires-clause-few g c =
    let q = g.P.Alarms.plant c.args.plant.now in
    rw c.moments.ensures (moments_few q c.args.id.0 c.unwrap-attr.result c.unwrap-row.result c.requires.rules c.requires.there)

pub returns-clause-text : goal.returns-clause-text
returns-clause-text g c =
    let q = g.P.Alarms.plant c.args.plant.now in
    subst (Wrote c.args.out.now c.put_alarm.new.out c.args.at c.put_alarm.result)
    (alarm_is (slice_get q.panel.attrs c.args.id.0) (slice_get q.panel.rows c.args.id.0) (slice_get q.kept.moments c.args.id.0) _ _ _ _ (sym c.attr.ensures ∙ c.unwrap-attr.ensures) (sym c.state.ensures ∙ c.unwrap-row.ensures) (slice_get-get_or q.kept.moments c.args.id.0 [] (omega (arith, c.requires.rules.recent, c.requires.there))) c.moments.ensures)
    c.put_alarm.ensures.text
