use Rattle.alm_codec.proofs.Frames.{frame_there, frame_again}
use Rattle.alm_codec.proofs.laws.undamaged_is_a_frame.Goals as goal

pub returns : goal.returns
returns c = record { some = frame_there; none = frame_again }
