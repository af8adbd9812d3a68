use Rattle.std.proofs.Common.{◌++◌, List, ℕ, ap, subst, ◌∙◌, arith}
use Rattle.std.specs.Int.{w64}
use Rattle.alm_codec.specs.Writing.{Wrote}
use Rattle.alm_codec.proofs.Writing.{Wrote-then}
use Rattle.std.specs.Int.{to_be_bytes}
use Rattle.std.specs.Prelude.{slice_index_or}
use Rattle.alm_codec.proofs.WrittenAlarm.{words_is}
use Rattle.alm_codec.proofs.alarm_writer.put_moments.Goals as goal

pub returns-clause-text : goal.returns-clause-text
returns-clause-text c =
    let two = Wrote-then _ _ _ _ _ _ _ _ c.put_word-second_at.ensures.text c.put_word-third_at.ensures.text (omega arith) in
    let three = Wrote-then _ _ _ _ _ _ _ _ two c.put_word.ensures.text (omega arith) in
    let ms : List ℕ = c.args.moments.now in
    subst (Wrote c.args.out.now c.put_word.new.out c.args.at c.put_word.result)
    (ap (λ (n : ℕ). (to_be_bytes w64 n ++ to_be_bytes w64 c.seconds_of-2.result) ++ to_be_bytes w64 c.seconds_of-3.result) c.seconds_of.ensures
    ∙ ap (λ (n : ℕ). (to_be_bytes w64 (slice_index_or ms 0 0) ++ to_be_bytes w64 n) ++ to_be_bytes w64 c.seconds_of-3.result) c.seconds_of-2.ensures
    ∙ ap (λ (n : ℕ). (to_be_bytes w64 (slice_index_or ms 0 0) ++ to_be_bytes w64 (slice_index_or ms 1 0)) ++ to_be_bytes w64 n) c.seconds_of-3.ensures
    ∙ words_is ms c.requires.few) three
