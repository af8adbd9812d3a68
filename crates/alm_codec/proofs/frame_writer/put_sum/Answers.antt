use Rattle.std.proofs.Common.{◌≡◌, ◌++◌, sym, ap, ◌∙◌, subst, take, drop, List, ℕ, arith}
use Rattle.std.proofs.lemmas.List.{take-take}
use Rattle.std.specs.Int.{w32, to_be_bytes}
use Rattle.alm_sum.specs.Crc.{checksum_of}
use Rattle.alm_codec.specs.Frames.{frame_head_len}
use Rattle.alm_codec.specs.Versions.{sum_text}
use Rattle.alm_codec.specs.Writing.{Wrote}
use Rattle.alm_codec.proofs.FrameWriting.{until}
use Rattle.alm_codec.proofs.frame_writer.put_sum.Goals as goal

pub returns-in-V03 : goal.returns-in-V03
returns-in-V03 c =
    let out : List ℕ = c.args.out.now in
    let head : c.split_at-in-V03.result.0.now ≡ take 14 out = c.split_at-in-V03.ensures.front ∙ ap (take 14) c.split_at.ensures.front ∙ take-take 14 18 out (omega arith) in
    let texts : c.split_at-in-V03-2.result.0.now ≡ take c.args.actions (drop 18 out) = c.split_at-in-V03-2.ensures.front ∙ ap (take c.args.actions) c.split_at.ensures.back in
    let sum : c.sum_of-sum.result ≡ checksum_of (take 14 out ++ take c.args.actions (drop 18 out)) = c.sum_of-sum.ensures ∙ (λ i. checksum_of (head i ++ texts i)) in
    let wrote : Wrote out c.put.new.out 14 18 (to_be_bytes w32 (checksum_of (take 14 out ++ take c.args.actions (drop 18 out)))) =
    until _ _ 14 c.put.result 18 _ (omega arith) (subst (Wrote out c.put.new.out 14 c.put.result) (c.to_be_bytes.ensures ∙ ap (to_be_bytes w32) sum) c.put.ensures.text) in
    subst (λ v. Wrote out c.put.new.out (frame_head_len v) 18 (sum_text v (take (frame_head_len v) out ++ take c.args.actions (drop 18 out)))) (sym c.in-V03.is) wrote
