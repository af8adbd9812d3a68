use Rattle.std.proofs.Common.{◌∙◌, arith}
use Rattle.alm_codec.proofs.Writing.{Wrote-then}
use Rattle.alm_codec.proofs.WrittenImage.{image_is}
use Rattle.alm_codec.proofs.image_writer.write_image.Goals as goal

pub returns-clause-text : goal.returns-clause-text
returns-clause-text g c =
    let q = g.P.Alarms.plant c.args.plant.now in
    let two = Wrote-then _ _ _ _ _ _ _ _ c.put_word-next_stamp_at.ensures.text c.put_word-areas_at.ensures.text (omega arith) in
    let three = Wrote-then _ _ _ _ _ _ _ _ two c.put_areas-alarms_at.ensures.text (omega (arith, c.put_areas-alarms_at.ensures.end, c.requires)) in
    let four = Wrote-then _ _ _ _ _ _ _ _ three c.put_alarms.ensures.text (omega (arith, c.put_areas-alarms_at.ensures.end, c.requires)) in
    image_is q c.args.out.now c.put_alarms.new.out _ _ _ _ (c.seconds.ensures.seconds ∙ c.now.ensures) c.next_stamp.ensures (omega (arith, c.put_areas-alarms_at.ensures.end, c.put_word-areas_at.ensures.end, c.put_word-next_stamp_at.ensures.end)) four
