use Rattle.std.proofs.Common.{◌+◌, ◌++◌, sym, ap, subst, ◌∙◌, arith}
use Rattle.std.specs.Int.{w32, to_be_bytes}
use Rattle.alm_codec.specs.Writing.{Wrote}
use Rattle.alm_codec.specs.declared.version.Version.{Version}
use Rattle.alm_codec.proofs.Writing.{Wrote-then}
use Rattle.alm_codec.proofs.FrameWriting.{until}
use Rattle.alm_checkpoint.specs.Headers.{end_text, head_sum}
use Rattle.alm_checkpoint.proofs.layout.Layout.put_end.Goals as goal

pub returns-in-V03 : goal.returns-in-V03
returns-in-V03 c =
    let t = c.args.head.now in
    let two = Wrote-then _ _ _ _ _ _ _ _ c.put-sum_at.ensures.text c.put.ensures.text (omega (arith, c.put-sum_at.ensures.end, c.put.ensures.end, c.requires.room)) in
    subst (λ (v : Version). Wrote c.args.out.now c.put.new.out c.args.at (c.args.at + 8) (end_text c.args.self.now c.args.half v t.epoch t.count t.sum)) (sym c.in-V03.is)
    (until _ _ c.args.at c.put.result (c.args.at + 8) _ (omega (arith, c.put-sum_at.ensures.end, c.put.ensures.end))
    (subst (Wrote c.args.out.now c.put.new.out c.args.at c.put.result) (λ i. c.to_be_bytes.ensures i ++ (c.to_be_bytes-in-V03.ensures ∙ ap (to_be_bytes w32) (c.head_sum.ensures ∙ ap (λ (v : Version). head_sum c.args.self.now c.args.half v t.epoch t.count t.sum) c.in-V03.is)) i) two))
