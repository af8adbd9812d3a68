use Rattle.std.proofs.Common.{rules}
use Rattle.alm_model.specs.Judging.{accepted_of}
use Rattle.alm_flush.proofs.Begun.{calls_behind}
use Rattle.alm_flush.proofs.commit.commit.Goals as goal

pub returns-clause-step : goal.returns-clause-step
returns-clause-step g c =
    let kept = c.prepare.ensures.work.kept in
    record {
      device = calls_behind g.K.Store g.K.Device.Disk c.call.result (accepted_of c.args.batch.now.entries) c.args.store.now c.prepare.new.store c.call.new.store kept.disk kept.exhausted.0 c.call.ensures.device;
      stores = search rules;
      commit = search rules;
      order = search rules;
      ends = search rules;
      causes = search rules;
    }
