use Rattle.std.proofs.Common.{◌++◌, List, ℕ, ap, subst, ◌∙◌, append_assoc, arith}
use Rattle.alm_codec.specs.Writing.{Wrote}
use Rattle.alm_codec.proofs.Writing.{Wrote-then}
use Rattle.alm_codec.specs.Image.{settings_text, placed_text}
use Rattle.alm_codec.proofs.alarm_writer.put_attr.Goals as goal

pub returns-clause-text : goal.returns-clause-text
returns-clause-text c =
    let two = Wrote-then _ _ _ _ _ _ _ _ c.put_settings-tag_at.ensures.text c.put_placed-text_at.ensures.text (omega arith) in
    let three = Wrote-then _ _ _ _ _ _ _ _ two c.put_placed.ensures.text (omega arith) in
    let head : List ℕ = settings_text c.args.attr.now in
    subst (Wrote c.args.out.now c.put_placed.new.out c.args.at c.put_placed.result)
    (append_assoc head (placed_text 32 c.as_bytes.result.now) (placed_text 80 c.as_bytes-2.result.now)
    ∙ ap (λ (t : List ℕ). head ++ placed_text 32 t ++ placed_text 80 c.as_bytes-2.result.now) c.as_bytes.ensures.bytes
    ∙ ap (λ (t : List ℕ). head ++ placed_text 32 c.args.attr.now.tag ++ placed_text 80 t) c.as_bytes-2.ensures.bytes) three
