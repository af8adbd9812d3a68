use Rattle.std.proofs.Common.{refl}
use Rattle.alm_file.proofs.Runs.{honest_run}
use Rattle.alm_file.proofs.laws.true_reads_make_an_honest_run.Goals as goal

pub returns : goal.returns
returns c = λ start later earlier are true_before none. record { answers = honest_run start later earlier true_before none; whole = refl; are_bytes = are }
