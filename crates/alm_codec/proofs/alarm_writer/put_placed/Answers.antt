use Rattle.std.proofs.Common.{◌+◌, subst, arith}
use Rattle.alm_codec.specs.Writing.{Wrote}
use Rattle.alm_codec.proofs.Writing.{Wrote-then}
use Rattle.alm_codec.proofs.WrittenAlarm.{placed_is}
use Rattle.alm_codec.proofs.alarm_writer.put_placed.Goals as goal

pub returns-clause-text : goal.returns-clause-text
returns-clause-text c =
    let two = Wrote-then _ _ _ _ _ _ _ _ c.put-text_at.ensures.text c.put-rest_at.ensures.text (omega arith) in
    let three = Wrote-then _ _ _ _ _ _ _ _ two c.put_zeros.ensures.text (omega (arith, c.requires.room, c.put-text_at.ensures.end)) in
    subst (Wrote c.args.out.now c.put_zeros.new.out c.args.at (c.put-text_at.result + c.args.size)) (placed_is c.args.text.now c.args.size c.put-rest_at.result (c.put-text_at.result + c.args.size) (omega (arith, c.put-rest_at.ensures.end))) three
