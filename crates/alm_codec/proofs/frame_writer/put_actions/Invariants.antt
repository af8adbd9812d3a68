use Rattle.std.proofs.Common.{◌≡◌, ◌+◌, ◌*◌, take, All}
use Rattle.alm_codec.specs.Frames.{IsAskedAction, texts_of}
use Rattle.alm_codec.specs.Writing.{Wrote}
use Rattle.alm_codec.proofs.frame_writer.put_actions.Given as goal

abbrev pub invariant-loop-action : goal.invariant-loop-action
invariant-loop-action l = record {
  end : l.end ≡ l.at + 16 * l.action-index;
  text : Wrote l.fn.out l.out l.at l.end (texts_of l.version (take l.action-index l.actions));
  limits : All IsAskedAction (take l.action-index l.actions);
}
