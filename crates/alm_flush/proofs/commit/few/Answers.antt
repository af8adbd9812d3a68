use Rattle.std.proofs.Common.{◌≡◌, length, ap, arith}
use Rattle.alm_flush.proofs.Pacing.{accepted_few}
use Rattle.alm_flush.proofs.commit.few.Goals as goal

pub returns : goal.returns
returns c =
    let same : length c.entries-entries.result.now ≡ length c.args.batch.now.entries = ap length c.entries-entries.ensures.entries in
    omega (arith, same, c.entries-entries.ensures.limit, accepted_few c.args.batch.now.entries)
