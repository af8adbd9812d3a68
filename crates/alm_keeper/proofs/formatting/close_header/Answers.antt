use Rattle.std.proofs.Common.{Result, refl, subst, [], ◌∷◌}
use Rattle.alm_disk.specs.declared.call.Call.TheVariants.{Write, Sync}
use Rattle.alm_disk.specs.declared.disk_fault.DiskFault.{DiskFault}
use Rattle.alm_keeper.specs.Moments.{Closing}
use Rattle.alm_keeper.proofs.Formed.{err_of, before_of}
use Rattle.alm_keeper.proofs.Moments.{ok_with, err_with}
use Rattle.alm_keeper.proofs.formatting.close_header.Goals as goal

pub returns-clause-before : goal.returns-clause-before
returns-clause-before g c = λ honest. err_of c.sync.result (before_of c.write_at.result c.sync.result (g.D.Disk.state c.args.disk.now) (g.D.Disk.state c.write_at.new.self) (g.D.Disk.state c.sync.new.self) (c.write_at.ensures.writes honest) (c.sync.ensures.syncs (c.write_at.ensures.honest.0 honest)))

pub returns-in_err-write_at-clause-fails : goal.returns-in_err-write_at-clause-fails
returns-in_err-write_at-clause-fails g c = err_of c.from_residual.result (record { made = []; call = (Closing, Write 0 1); left = (Closing, Sync) ∷ []; are = refl; middle = c.args.disk.now; goes = refl; fault = c.in_err-write_at.field-0.0; fails = record { served = subst (λ (r : Result Unit DiskFault). g.D.Disk.serves c.args.disk.now (Write 0 1) r c.write_at.new.self) c.in_err-write_at.was (c.write_at.ensures.serves); any_moment = λ p b image. tt } })

pub returns-clause-goes : goal.returns-clause-goes
returns-clause-goes g c = ok_with c.sync.result (λ is. (c.write_at.new.self, record { served = subst (λ (r : Result Unit DiskFault). g.D.Disk.serves c.args.disk.now (Write 0 1) r c.write_at.new.self) c.in_ok-write_at.was (c.write_at.ensures.serves); any_moment = λ p b image. tt }, (c.sync.new.self, record { served = subst (λ (r : Result Unit DiskFault). g.D.Disk.serves c.write_at.new.self (Sync) r c.sync.new.self) is (c.sync.ensures.serves); any_moment = λ p b image. tt }, refl)))

pub returns-clause-fails : goal.returns-clause-fails
returns-clause-fails g c = err_with c.sync.result (λ fault is. record { made = (Closing, Write 0 1) ∷ []; call = (Closing, Sync); left = []; are = refl; middle = c.write_at.new.self; goes = (c.write_at.new.self, record { served = subst (λ (r : Result Unit DiskFault). g.D.Disk.serves c.args.disk.now (Write 0 1) r c.write_at.new.self) c.in_ok-write_at.was (c.write_at.ensures.serves); any_moment = λ p b image. tt }, refl); fault = fault; fails = record { served = subst (λ (r : Result Unit DiskFault). g.D.Disk.serves c.write_at.new.self (Sync) r c.sync.new.self) is (c.sync.ensures.serves); any_moment = λ p b image. tt } })
