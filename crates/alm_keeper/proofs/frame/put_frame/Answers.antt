use Rattle.std.proofs.Common.{◌+◌, ◌*◌, length, arith}
use Rattle.alm_codec.specs.Frames.{frame_body}
use Rattle.alm_keeper.proofs.Setting.{set_between}
use Rattle.alm_keeper.proofs.frame.put_frame.Goals as goal

pub returns : goal.returns
returns c =
    let s = c.split_at_mut-front.ensures in
    record {
      text = set_between c.args.out.now c.split_at_mut-front.result.0.now c.split_at_mut-front.result.1.now c.write_frame_body.new.out (frame_body c.args.version c.args.epoch c.args.first c.args.actions.now) c.args.run (19 + 16 * length c.args.actions.now) 165
          s.front s.back c.write_frame_body.ensures.text c.requires.gate (omega (arith, c.requires.room));
    }
