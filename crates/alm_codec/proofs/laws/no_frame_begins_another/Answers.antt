use Rattle.alm_codec.proofs.Frames.{no_frame_begins}
use Rattle.alm_codec.proofs.laws.no_frame_begins_another.Goals as goal

pub returns : goal.returns
returns c = no_frame_begins
