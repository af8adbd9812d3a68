use Rattle.std.proofs.Common.{ap, subst, ◌∙◌, arith}
use Rattle.alm_codec.specs.Writing.{Wrote}
use Rattle.alm_codec.proofs.Writing.{Wrote-then}
use Rattle.alm_state.specs.Rows.{State}
use Rattle.alm_model.specs.Lists.{deadline}
use Rattle.alm_codec.specs.Actions.{switch_number}
use Rattle.alm_codec.specs.Image.{core_code}
use Rattle.alm_codec.proofs.WrittenAlarm.{row_is}
use Rattle.alm_codec.proofs.alarm_writer.put_row.Goals as goal

pub returns-clause-text : goal.returns-clause-text
returns-clause-text c =
    let two = Wrote-then _ _ _ _ _ _ _ _ c.put-deadline_at.ensures.text c.put_word-stamp_at.ensures.text (omega arith) in
    let three = Wrote-then _ _ _ _ _ _ _ _ two c.put_word-moments_at.ensures.text (omega arith) in
    let four = Wrote-then _ _ _ _ _ _ _ _ three c.put_moments.ensures.text (omega arith) in
    let shown = c.row.view_is in
    let view : State = c.args.row.now in
    subst (Wrote c.args.out.now c.put_moments.new.out c.args.at c.put_moments.result)
    (row_is view c.args.moments.now c.flag_code.result c.core_code.result c.flags.result c.unwrap_or.result c.row.inside.stamp
    (c.flag_code.ensures ∙ ap (λ (s : State). switch_number s.active) shown)
    (c.core_code.ensures ∙ ap (λ (s : State). core_code s.core) shown)
    c.flags.ensures.value
    (c.unwrap_or.ensures ∙ ap (λ (s : State). deadline s) shown)
    (ap (λ (s : State). s.stamp) shown)) four
