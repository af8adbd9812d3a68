-- Other open gates change nothing.
use Rattle.std.proofs.Common.{◌≡◌, ℕ, ◌+◌, List, [], ◌∷◌, ◌++◌, length, refl, sym, ◌∙◌, ap, subst}
use Rattle.alm_codec.specs.declared.asked.Asked.{Asked}
use Rattle.alm_model.specs.Plant.{Condensed}
use Rattle.alm_model.specs.Step.{run}
use Rattle.alm_model.specs.Rules.{AreAdmitted}
use Rattle.alm_codec.specs.declared.version.Version.{Version}
use Rattle.alm_codec.specs.Versions.{AreBorne}
use Rattle.alm_codec.specs.Frames.{IsFrame, asked_actions}
use Rattle.alm_segment.specs.Texts.{Frame, AreFrames, actions_in}
use Rattle.alm_checkpoint.specs.Cut.{Cut, Stores, OtherGates, with_frames}

same_actions : (version : Version) (frames others : List Frame) → OtherGates version frames others → actions_in others ≡ actions_in frames
same_actions version [] [] h = refl
same_actions version [] (g ∷ others) h = absurd h
same_actions version (f ∷ frames) [] h = absurd h
same_actions version (f ∷ frames) (g ∷ others) h = (λ i. asked_actions (h.0 i) ++ same_actions version frames others h.2 i)

are_frames : (version : Version) (epoch count : ℕ) (frames others : List Frame) → AreFrames version epoch count frames → OtherGates version frames others → AreFrames version epoch count others
are_frames version epoch count [] [] are h = tt
are_frames version epoch count [] (g ∷ others) are h = absurd h
are_frames version epoch count (f ∷ frames) [] are h = absurd h
are_frames version epoch count (f ∷ frames) (g ∷ others) are h = (
  h.1,
  subst (IsFrame version epoch (count + 1)) (sym h.0) are.1,
  subst (λ (list : List Asked). AreFrames version epoch (count + length list) others) (sym h.0) (are_frames version epoch (count + length f.asked) frames others are.2 h.2),
)

pub stores_gates : (c : Cut) (plant : Condensed) (frames : List Frame) → Stores c plant → OtherGates c.version c.frames frames → Stores (with_frames c frames) plant
stores_gates c plant frames s h =
    let same : actions_in frames ≡ actions_in c.frames = same_actions c.version c.frames frames h in
    record {
      layout = s.layout;
      version = s.version;
      epoch = s.epoch;
      image = s.image;
      sizes = s.sizes;
      count = s.count;
      frames = are_frames c.version c.epoch c.base.panel.count c.frames frames s.frames h;
      borne = subst (AreBorne c.version) (sym same) s.borne;
      admitted = subst (AreAdmitted c.base) (sym same) s.admitted;
      runs = ap (run c.base) same ∙ s.runs;
      size = s.size;
      below = s.below;
    }
