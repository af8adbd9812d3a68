-- How long the texts of a device are.
use Rattle.std.proofs.Common.{◌≡◌, ℕ, ◌+◌, ◌*◌, List, ◌∷◌, ◌++◌, length, arith, length-append}
use Rattle.alm_codec.specs.declared.asked.Asked.{Asked}
use Rattle.alm_model.specs.Plant.{Condensed}
use Rattle.alm_codec.specs.Frames.{frame_text}
use Rattle.alm_codec.specs.declared.version.Version.{Version}
use Rattle.alm_codec.specs.Image.{image_text}
use Rattle.alm_codec.proofs.Frames.{text_length}
use Rattle.alm_segment.specs.Texts.{frames_text}
use Rattle.alm_checkpoint.specs.Layouts.{image_size}
use Rattle.alm_checkpoint.specs.Headers.{half_head_text}
use Rattle.alm_checkpoint.specs.Cut.{Cut, Stores, head_before, half_text}
use Rattle.alm_checkpoint.proofs.HeaderLaws.{head_long}
use Rattle.alm_checkpoint.proofs.Shown.{image_is_long}

pub frame_long : (version : Version) (epoch first : ℕ) (actions : List Asked) → length (frame_text version epoch first actions) ≡ 18 + 16 * length actions
frame_long version epoch first actions = text_length version epoch first actions

pub half_long : (c : Cut) (plant : Condensed) → Stores c plant → length (half_text c.layout c.half c.version c.epoch c.base c.frames) ≡ 25 + image_size c.layout + length (frames_text c.version c.epoch c.base.panel.count c.frames)
half_long c plant stores = omega (
  arith,
  image_is_long c.layout c.base stores.sizes stores.image,
  head_long c.layout c.half (head_before c.version c.epoch c.base),
  length-append ((165 ∷ half_head_text c.layout c.half (head_before c.version c.epoch c.base)) ++ image_text c.base) (frames_text c.version c.epoch c.base.panel.count c.frames),
  length-append (165 ∷ half_head_text c.layout c.half (head_before c.version c.epoch c.base)) (image_text c.base),
)
