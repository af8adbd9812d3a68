use Rattle.std.proofs.Common.{◌≡◌, ◌+◌, ◌++◌, ◌∷◌, [], length, take, drop, arith, ap, ◌∙◌, length-append, length-drop}
use Rattle.std.proofs.lemmas.List.{take_at, with_items_is}
use Rattle.alm_codec.specs.Versions.{closed_gate}
use Rattle.alm_codec.specs.Image.{image_text, image_len}
use Rattle.alm_codec.proofs.Spelled.{image_length}
use Rattle.alm_checkpoint.specs.Layouts.{image_size}
use Rattle.alm_checkpoint.specs.Headers.{half_head_text}
use Rattle.alm_checkpoint.specs.Cut.{head_before}
use Rattle.alm_checkpoint.proofs.HeaderLaws.{head_long}
use Rattle.alm_keeper.proofs.half_text.put_in_run.Goals as goal

pub returns-clause-text : goal.returns-clause-text
returns-clause-text c =
    let v = c.args.buffer.now in
    let l = c.args.layout.now in
    let h = c.args.half in
    let t = head_before c.args.version c.args.epoch c.args.plant.now in
    let q = c.args.plant.now in
    let s = c.requires.sizes in
    let out = c.put_front.new.out in
    let n = 25 + image_size l in
    let text = half_head_text l h t ++ image_text q ++ closed_gate c.args.version ∷ [] in
    let rest = drop n c.deref_mut.result.now in
    let image : length (image_text q) ≡ image_size l = image_length q c.requires.rules ∙ (λ i. image_len (s.by_rows i) (s.by_areas i)) in
    let long : length text ≡ n = omega (arith, image, head_long l h t, length-append (half_head_text l h t ++ image_text q) (closed_gate c.args.version ∷ []), length-append (half_head_text l h t) (image_text q)) in
    let is : out ≡ text ++ rest = c.put_front.ensures.text in
    let all : length out ≡ v.len = omega (arith, ap length is, length-append text rest, long, length-drop n c.deref_mut.result.now, ap length c.deref_mut.ensures.value, c.requires.room, v.ok.0) in
    ap (take n) (with_items_is v out all ∙ is) ∙ take_at text rest n long
