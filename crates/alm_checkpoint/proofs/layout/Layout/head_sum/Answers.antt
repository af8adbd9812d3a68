use Rattle.std.proofs.Common.{◌≡◌, ℕ, ◌%◌, ◌^◌, length, take, ap, ◌∙◌, arith}
use Rattle.alm_codec.proofs.Writing.{Wrote-then}
use Rattle.alm_checkpoint.specs.Headers.{sum_number}
use Rattle.alm_checkpoint.proofs.Written.{summed_is}
use Rattle.alm_checkpoint.proofs.layout.Layout.head_sum.Goals as goal

pub returns : goal.returns
returns c =
    let t = c.args.head.now in
    let ends : c.put.result ≡ 43 = omega (arith, c.put-epoch_at.ensures.end, c.put_word-count_at.ensures.end, c.put_word-sum_at.ensures.end, c.put.ensures.end) in
    let two = Wrote-then _ _ _ _ _ _ _ _ c.put-epoch_at.ensures.text c.put_word-count_at.ensures.text (omega (arith, c.put-epoch_at.ensures.end, c.put_word-count_at.ensures.end, ap length c.write_header.ensures)) in
    let three = Wrote-then _ _ _ _ _ _ _ _ two c.put_word-sum_at.ensures.text (omega (arith, c.put-epoch_at.ensures.end, c.put_word-count_at.ensures.end, c.put_word-sum_at.ensures.end)) in
    let four = Wrote-then _ _ _ _ _ _ _ _ three c.put.ensures.text (omega (arith, ends)) in
    let own : c.checksum.result ≡ c.checksum.result % 2 ^ 32 = omega arith in
    own
    ∙ ap (λ (n : ℕ). n % 2 ^ 32) c.checksum.ensures
    ∙ ap sum_number (summed_is c.args.self.now c.args.half t _ _ _ _ _ c.put.result (ap (take 22) c.write_header.ensures) (ap length c.write_header.ensures) c.number.ensures c.mark_weight.ensures c.to_be_bytes.ensures four ends)
