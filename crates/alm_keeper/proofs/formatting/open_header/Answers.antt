use Rattle.std.proofs.Common.{inr, ⊎_elim, Result, refl, subst, [], ◌∷◌}
use Rattle.alm_disk.specs.declared.call.Call.TheVariants.{Write, Sync}
use Rattle.alm_disk.specs.declared.disk_fault.DiskFault.{DiskFault}
use Rattle.alm_keeper.specs.Moments.{Opening}
use Rattle.alm_keeper.proofs.Formed.{err_of}
use Rattle.alm_keeper.proofs.Moments.{ok_with, err_with}
use Rattle.alm_keeper.proofs.formatting.open_header.Goals as goal

pub returns-in_err-open_gate-clause-fails : goal.returns-in_err-open_gate-clause-fails
returns-in_err-open_gate-clause-fails g c = err_of c.from_residual.result (record { made = []; call = (Opening, Write 0 1); left = (Opening, Sync) ∷ []; are = refl; middle = c.args.disk.now; goes = refl; fault = c.in_err-open_gate.field-0.0; fails = record { served = subst (λ (r : Result Unit DiskFault). g.D.Disk.serves c.args.disk.now (Write 0 1) r c.open_gate.new.disk) c.in_err-open_gate.was (c.open_gate.ensures.serves); any_moment = λ p b image. c.open_gate.ensures.any_moment (g.D.Disk.state c.args.disk.now).bytes b p.0 p.1.0 p.1.1 image } })

pub returns-clause-goes : goal.returns-clause-goes
returns-clause-goes g c = ok_with c.sync_open.result (λ is. (c.open_gate.new.disk, record { served = subst (λ (r : Result Unit DiskFault). g.D.Disk.serves c.args.disk.now (Write 0 1) r c.open_gate.new.disk) c.in_ok-open_gate.was (c.open_gate.ensures.serves); any_moment = λ p b image. c.open_gate.ensures.any_moment (g.D.Disk.state c.args.disk.now).bytes b p.0 p.1.0 p.1.1 image }, (c.sync_open.new.disk, record { served = subst (λ (r : Result Unit DiskFault). g.D.Disk.serves c.open_gate.new.disk (Sync) r c.sync_open.new.disk) is (c.sync_open.ensures.serves); any_moment = λ p b image. c.open_gate.ensures.any_moment (g.D.Disk.state c.args.disk.now).bytes b p.0 p.1.0 p.1.1 (inr (⊎_elim (λ i. i) (c.sync_open.ensures.any_moment b (c.open_gate.ensures.honest.0 p.0)) image)) }, refl)))

pub returns-clause-fails : goal.returns-clause-fails
returns-clause-fails g c = err_with c.sync_open.result (λ fault is. record { made = (Opening, Write 0 1) ∷ []; call = (Opening, Sync); left = []; are = refl; middle = c.open_gate.new.disk; goes = (c.open_gate.new.disk, record { served = subst (λ (r : Result Unit DiskFault). g.D.Disk.serves c.args.disk.now (Write 0 1) r c.open_gate.new.disk) c.in_ok-open_gate.was (c.open_gate.ensures.serves); any_moment = λ p b image. c.open_gate.ensures.any_moment (g.D.Disk.state c.args.disk.now).bytes b p.0 p.1.0 p.1.1 image }, refl); fault = fault; fails = record { served = subst (λ (r : Result Unit DiskFault). g.D.Disk.serves c.open_gate.new.disk (Sync) r c.sync_open.new.disk) is (c.sync_open.ensures.serves); any_moment = λ p b image. c.open_gate.ensures.any_moment (g.D.Disk.state c.args.disk.now).bytes b p.0 p.1.0 p.1.1 (inr (⊎_elim (λ i. i) (c.sync_open.ensures.any_moment b (c.open_gate.ensures.honest.0 p.0)) image)) } })
