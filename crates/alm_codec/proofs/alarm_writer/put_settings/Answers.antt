use Rattle.std.proofs.Common.{subst, arith}
use Rattle.alm_codec.specs.Writing.{Wrote}
use Rattle.alm_codec.proofs.Writing.{Wrote-then}
use Rattle.alm_codec.proofs.WrittenAlarm.{settings_is}
use Rattle.alm_codec.proofs.alarm_writer.put_settings.Goals as goal

pub returns-clause-text : goal.returns-clause-text
returns-clause-text c =
    let two = Wrote-then _ _ _ _ _ _ _ _ c.put-setpoint_at.ensures.text c.put_word-deadband_at.ensures.text (omega arith) in
    let three = Wrote-then _ _ _ _ _ _ _ _ two c.put_word-longest_at.ensures.text (omega arith) in
    let four = Wrote-then _ _ _ _ _ _ _ _ three c.put.ensures.text (omega arith) in
    subst (Wrote c.args.out.now c.put.new.out c.args.at c.put.result) (settings_is c.args.attr.now c.kind_code.result c.flag_code.result c.setpoint_word.result c.to_be_bytes.result c.kind_code.ensures c.flag_code.ensures c.setpoint_word.ensures c.to_be_bytes.ensures) four
