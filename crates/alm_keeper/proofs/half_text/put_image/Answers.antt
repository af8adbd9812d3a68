use Rattle.std.proofs.Common.{◌≡◌, ◌+◌, ◌++◌, ◌∷◌, [], ℕ, length, drop, sym, ◌∙◌, ap}
use Rattle.alm_codec.specs.Image.{image_text, image_len}
use Rattle.alm_codec.proofs.Spelled.{image_length}
use Rattle.alm_keeper.proofs.Setting.{set_behind}
use Rattle.alm_keeper.proofs.half_text.put_image.Goals as goal

pub returns : goal.returns
returns c =
    let q = c.args.plant.now in
    let s = c.requires.sizes in
    let len : image_len (length q.panel.rows) (length q.floods) ≡ c.image_len.result = (λ i. image_len (s.by_rows i) (s.by_areas i)) ∙ sym c.image_len.ensures in
    let long : length (image_text q) ≡ c.image_len.result = image_length q c.requires.rules ∙ len in
    record {
      text = set_behind (image_text q) c.args.out.now c.write_image.new.out c.image_len.result c.closed_gate.result (c.write_image.ensures.text ∙ ap (λ (n : ℕ). image_text q ++ drop n c.args.out.now) len) (sym long) (c.requires.room ∙ ap (λ (n : ℕ). 1 + n) (sym c.image_len.ensures))
          ∙ ap (λ (g : ℕ). image_text q ++ g ∷ []) c.closed_gate.ensures;
    }
