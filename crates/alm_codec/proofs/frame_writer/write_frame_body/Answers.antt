use Rattle.std.proofs.Common.{◌≡◌, ◌+◌, ◌*◌, ◌∷◌, [], subst, length, List, ℕ, arith}
use Rattle.alm_codec.specs.Frames.{texts_of}
use Rattle.alm_codec.specs.Versions.{closed_gate}
use Rattle.alm_codec.specs.Writing.{Wrote}
use Rattle.alm_codec.proofs.FrameWriting.{body_is, until}
use Rattle.alm_codec.proofs.frame_writer.write_frame_body.Goals as goal

pub returns-clause-text : goal.returns-clause-text
returns-clause-text c =
    let version = c.args.version in
    let list = c.args.actions.now in
    let out : List ℕ = c.args.out.now in
    let end : c.put_actions-end.result ≡ 18 + 16 * length list = omega (arith, c.put_actions-end.ensures.end) in
    let texts : Wrote out c.put_actions-end.new.out 18 (18 + 16 * length list) (texts_of version list) = until _ _ 18 c.put_actions-end.result _ _ end c.put_actions-end.ensures.text in
    let gate : Wrote c.put_sum.new.out c.put.new.out (18 + 16 * length list) (18 + 16 * length list + 1) (closed_gate version ∷ []) =
    until _ _ _ c.put.result _ _ (omega (arith, c.put.ensures.end, end)) (subst (λ (n : ℕ). Wrote c.put_sum.new.out c.put.new.out n c.put.result (closed_gate version ∷ [])) end
    (subst (λ (g : ℕ). Wrote c.put_sum.new.out c.put.new.out c.put_actions-end.result c.put.result (g ∷ [])) c.closed_gate.ensures c.put.ensures.text)) in
    body_is version out c.put_actions-end.new.out c.put_head.new.out c.put_sum.new.out c.put.new.out c.args.epoch c.args.first list (omega (arith, c.requires.room)) texts c.put_head.ensures c.put_sum.ensures gate
