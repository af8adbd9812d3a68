use Rattle.std.proofs.Common.{◌≡◌, ◌++◌, ◌∷◌, [], ℕ, List, length, take, drop, arith, sym, ap, ◌∙◌, append_assoc}
use Rattle.std.proofs.lemmas.List.{append-nil, drop_all, take_at}
use Rattle.alm_codec.specs.Versions.{closed_gate}
use Rattle.alm_codec.specs.Image.{image_text, image_len}
use Rattle.alm_codec.proofs.Spelled.{image_length}
use Rattle.alm_checkpoint.specs.declared.half_head.HalfHead.{HalfHead}
use Rattle.alm_checkpoint.specs.Headers.{half_head_text, image_sum}
use Rattle.alm_checkpoint.specs.Cut.{head_before}
use Rattle.alm_keeper.proofs.half_text.put_half.Goals as goal

pub returns : goal.returns
returns c =
    let q = c.args.plant.now in
    let s = c.requires.sizes in
    let l = c.args.layout.now in
    let image : List ℕ = image_text q in
    let front : List ℕ = c.split_at_mut-front.result.0.now in
    let long : length image ≡ c.image_len.result = image_length q c.requires.rules ∙ (λ i. image_len (s.by_rows i) (s.by_areas i)) ∙ sym c.image_len.ensures in
    let cut : c.split_at.result.0.now ≡ image = c.split_at.ensures.front ∙ ap (take c.image_len.result) c.put_image.ensures.text ∙ take_at image (closed_gate c.args.version ∷ []) c.image_len.result long in
    let sum : c.image_sum.result ≡ image_sum c.args.version image = c.image_sum.ensures ∙ ap (image_sum c.args.version) cut in
    let none : drop 24 front ≡ [] = drop_all 24 front (omega (arith, c.split_at_mut-front.ensures.front_len)) in
    let head : HalfHead = head_before c.args.version c.args.epoch q in
    let wrote : c.write_half_head.new.out ≡ half_head_text l c.args.half head =
    c.write_half_head.ensures
    ∙ (λ i. half_head_text l c.args.half (record { epoch = c.args.epoch; version = c.args.version; count = c.count.ensures i; sum = sum i }) ++ none i)
    ∙ append-nil (half_head_text l c.args.half head) in
    record { text = (λ i. wrote i ++ c.put_image.ensures.text i) ∙ sym (append_assoc (half_head_text l c.args.half head) image (closed_gate c.args.version ∷ [])) }
