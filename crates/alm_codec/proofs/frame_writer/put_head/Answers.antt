use Rattle.std.proofs.Common.{ap, ◌∙◌, refl, subst, arith}
use Rattle.std.specs.Int.{w16, to_be_bytes}
use Rattle.alm_codec.specs.Frames.{frame_head_len}
use Rattle.alm_codec.specs.Writing.{Wrote}
use Rattle.alm_codec.proofs.Writing.{Wrote-then}
use Rattle.alm_codec.proofs.FrameWriting.{head_parts, until}
use Rattle.alm_codec.proofs.frame_writer.put_head.Goals as goal

pub returns : goal.returns
returns c =
    let two = Wrote-then _ _ _ _ _ _ _ _ c.put-first_at.ensures.text c.put_first-count_at.ensures.text (omega (arith, c.put_first-count_at.ensures.end)) in
    let three = Wrote-then _ _ _ _ _ _ _ _ two c.put.ensures.text (omega (arith, c.put_first-count_at.ensures.end)) in
    until _ _ 0 c.put.result (frame_head_len c.args.version) _ (omega (arith, c.put_first-count_at.ensures.end))
    (subst (Wrote c.args.out.now c.put.new.out 0 c.put.result) (head_parts _ _ _ _ _ _ c.to_be_bytes.ensures refl (c.to_be_bytes-2.ensures ∙ ap (to_be_bytes w16) c.counting.ensures)) three)
