use Rattle.std.proofs.Common.{◌+◌, ℕ, Result, refl, subst, [], ◌∷◌}
use Rattle.alm_disk.specs.declared.call.Call.TheVariants.{Write, Sync}
use Rattle.alm_disk.specs.declared.disk_fault.DiskFault.{DiskFault}
use Rattle.alm_checkpoint.specs.declared.half.Half.TheVariants.{Second}
use Rattle.alm_checkpoint.specs.Layouts.{half_at, image_size}
use Rattle.alm_keeper.specs.Moments.{Behind}
use Rattle.alm_keeper.proofs.Formed.{err_of}
use Rattle.alm_keeper.proofs.Moments.{ok_with, err_with}
use Rattle.alm_keeper.proofs.formatting.write_behind.Goals as goal

pub returns-in_err-write_shut-clause-fails : goal.returns-in_err-write_shut-clause-fails
returns-in_err-write_shut-clause-fails g c = err_of c.from_residual.result (record { made = []; call = (Behind, Write 1 22); left = (Behind, Write 23 (26 + image_size c.args.layout.now)) ∷ (Behind, Write (half_at c.args.layout.now Second) 1) ∷ (Behind, Sync) ∷ (Behind, Write 23 1) ∷ (Behind, Sync) ∷ []; are = refl; middle = c.args.disk.now; goes = refl; fault = c.in_err-write_shut.field-0.0; fails = record { served = subst (λ (r : Result Unit DiskFault). g.D.Disk.serves c.args.disk.now (Write 1 22) r c.write_shut.new.disk) c.in_err-write_shut.was (subst (λ (n : ℕ). g.D.Disk.serves c.args.disk.now (Write 1 n) c.write_shut.result c.write_shut.new.disk) c.requires.header c.write_shut.ensures.serves); any_moment = λ p. c.write_shut.ensures.any_moment p.0 p.1 } })

pub returns-in_err-write_shut-2-clause-fails : goal.returns-in_err-write_shut-2-clause-fails
returns-in_err-write_shut-2-clause-fails g c = err_of c.from_residual-in_err-write_shut-2.result (record { made = (Behind, Write 1 22) ∷ []; call = (Behind, Write 23 (26 + image_size c.args.layout.now)); left = (Behind, Write (half_at c.args.layout.now Second) 1) ∷ (Behind, Sync) ∷ (Behind, Write 23 1) ∷ (Behind, Sync) ∷ []; are = refl; middle = c.write_shut.new.disk; goes = (c.write_shut.new.disk, record { served = subst (λ (r : Result Unit DiskFault). g.D.Disk.serves c.args.disk.now (Write 1 22) r c.write_shut.new.disk) c.in_ok-write_shut.was (subst (λ (n : ℕ). g.D.Disk.serves c.args.disk.now (Write 1 n) c.write_shut.result c.write_shut.new.disk) c.requires.header c.write_shut.ensures.serves); any_moment = λ p. c.write_shut.ensures.any_moment p.0 p.1 }, refl); fault = c.in_err-write_shut-2.field-0.0; fails = record { served = subst (λ (r : Result Unit DiskFault). g.D.Disk.serves c.write_shut.new.disk (Write 23 (26 + image_size c.args.layout.now)) r c.write_shut-2.new.disk) c.in_err-write_shut-2.was (subst (λ (n : ℕ). g.D.Disk.serves c.write_shut.new.disk (Write 23 n) c.write_shut-2.result c.write_shut-2.new.disk) c.requires.half c.write_shut-2.ensures.serves); any_moment = λ p. let h0 = c.write_shut.ensures.honest.0 p.0 in let s0 = c.write_shut.ensures.shut p.0 p.1 in c.write_shut-2.ensures.any_moment h0 s0 } })

pub returns-in_err-write_shut-3-clause-fails : goal.returns-in_err-write_shut-3-clause-fails
returns-in_err-write_shut-3-clause-fails g c = err_of c.from_residual-in_err-write_shut-3.result (record { made = (Behind, Write 1 22) ∷ (Behind, Write 23 (26 + image_size c.args.layout.now)) ∷ []; call = (Behind, Write (half_at c.args.layout.now Second) 1); left = (Behind, Sync) ∷ (Behind, Write 23 1) ∷ (Behind, Sync) ∷ []; are = refl; middle = c.write_shut-2.new.disk; goes = (c.write_shut.new.disk, record { served = subst (λ (r : Result Unit DiskFault). g.D.Disk.serves c.args.disk.now (Write 1 22) r c.write_shut.new.disk) c.in_ok-write_shut.was (subst (λ (n : ℕ). g.D.Disk.serves c.args.disk.now (Write 1 n) c.write_shut.result c.write_shut.new.disk) c.requires.header c.write_shut.ensures.serves); any_moment = λ p. c.write_shut.ensures.any_moment p.0 p.1 }, (c.write_shut-2.new.disk, record { served = subst (λ (r : Result Unit DiskFault). g.D.Disk.serves c.write_shut.new.disk (Write 23 (26 + image_size c.args.layout.now)) r c.write_shut-2.new.disk) c.in_ok-write_shut-2.was (subst (λ (n : ℕ). g.D.Disk.serves c.write_shut.new.disk (Write 23 n) c.write_shut-2.result c.write_shut-2.new.disk) c.requires.half c.write_shut-2.ensures.serves); any_moment = λ p. let h0 = c.write_shut.ensures.honest.0 p.0 in let s0 = c.write_shut.ensures.shut p.0 p.1 in c.write_shut-2.ensures.any_moment h0 s0 }, refl)); fault = c.in_err-write_shut-3.field-0.0; fails = record { served = subst (λ (r : Result Unit DiskFault). g.D.Disk.serves c.write_shut-2.new.disk (Write (half_at c.args.layout.now Second) 1) r c.write_shut-3.new.disk) c.in_err-write_shut-3.was (subst (λ (n : ℕ). g.D.Disk.serves c.write_shut-2.new.disk (Write n 1) c.write_shut-3.result c.write_shut-3.new.disk) c.half_at.ensures c.write_shut-3.ensures.serves); any_moment = λ p. let h0 = c.write_shut.ensures.honest.0 p.0 in let s0 = c.write_shut.ensures.shut p.0 p.1 in let h1 = c.write_shut-2.ensures.honest.0 h0 in let s1 = c.write_shut-2.ensures.shut h0 s0 in c.write_shut-3.ensures.any_moment h1 s1 } })

pub returns-in_err-sync_shut-clause-fails : goal.returns-in_err-sync_shut-clause-fails
returns-in_err-sync_shut-clause-fails g c = err_of c.from_residual-in_err-sync_shut.result (record { made = (Behind, Write 1 22) ∷ (Behind, Write 23 (26 + image_size c.args.layout.now)) ∷ (Behind, Write (half_at c.args.layout.now Second) 1) ∷ []; call = (Behind, Sync); left = (Behind, Write 23 1) ∷ (Behind, Sync) ∷ []; are = refl; middle = c.write_shut-3.new.disk; goes = (c.write_shut.new.disk, record { served = subst (λ (r : Result Unit DiskFault). g.D.Disk.serves c.args.disk.now (Write 1 22) r c.write_shut.new.disk) c.in_ok-write_shut.was (subst (λ (n : ℕ). g.D.Disk.serves c.args.disk.now (Write 1 n) c.write_shut.result c.write_shut.new.disk) c.requires.header c.write_shut.ensures.serves); any_moment = λ p. c.write_shut.ensures.any_moment p.0 p.1 }, (c.write_shut-2.new.disk, record { served = subst (λ (r : Result Unit DiskFault). g.D.Disk.serves c.write_shut.new.disk (Write 23 (26 + image_size c.args.layout.now)) r c.write_shut-2.new.disk) c.in_ok-write_shut-2.was (subst (λ (n : ℕ). g.D.Disk.serves c.write_shut.new.disk (Write 23 n) c.write_shut-2.result c.write_shut-2.new.disk) c.requires.half c.write_shut-2.ensures.serves); any_moment = λ p. let h0 = c.write_shut.ensures.honest.0 p.0 in let s0 = c.write_shut.ensures.shut p.0 p.1 in c.write_shut-2.ensures.any_moment h0 s0 }, (c.write_shut-3.new.disk, record { served = subst (λ (r : Result Unit DiskFault). g.D.Disk.serves c.write_shut-2.new.disk (Write (half_at c.args.layout.now Second) 1) r c.write_shut-3.new.disk) c.in_ok-write_shut-3.was (subst (λ (n : ℕ). g.D.Disk.serves c.write_shut-2.new.disk (Write n 1) c.write_shut-3.result c.write_shut-3.new.disk) c.half_at.ensures c.write_shut-3.ensures.serves); any_moment = λ p. let h0 = c.write_shut.ensures.honest.0 p.0 in let s0 = c.write_shut.ensures.shut p.0 p.1 in let h1 = c.write_shut-2.ensures.honest.0 h0 in let s1 = c.write_shut-2.ensures.shut h0 s0 in c.write_shut-3.ensures.any_moment h1 s1 }, refl))); fault = c.in_err-sync_shut.field-0.0; fails = record { served = subst (λ (r : Result Unit DiskFault). g.D.Disk.serves c.write_shut-3.new.disk (Sync) r c.sync_shut.new.disk) c.in_err-sync_shut.was (c.sync_shut.ensures.serves); any_moment = λ p. let h0 = c.write_shut.ensures.honest.0 p.0 in let s0 = c.write_shut.ensures.shut p.0 p.1 in let h1 = c.write_shut-2.ensures.honest.0 h0 in let s1 = c.write_shut-2.ensures.shut h0 s0 in let h2 = c.write_shut-3.ensures.honest.0 h1 in let s2 = c.write_shut-3.ensures.shut h1 s1 in c.sync_shut.ensures.any_moment h2 s2 } })

pub returns-in_err-write_shut-4-clause-fails : goal.returns-in_err-write_shut-4-clause-fails
returns-in_err-write_shut-4-clause-fails g c = err_of c.from_residual-in_err-write_shut-4.result (record { made = (Behind, Write 1 22) ∷ (Behind, Write 23 (26 + image_size c.args.layout.now)) ∷ (Behind, Write (half_at c.args.layout.now Second) 1) ∷ (Behind, Sync) ∷ []; call = (Behind, Write 23 1); left = (Behind, Sync) ∷ []; are = refl; middle = c.sync_shut.new.disk; goes = (c.write_shut.new.disk, record { served = subst (λ (r : Result Unit DiskFault). g.D.Disk.serves c.args.disk.now (Write 1 22) r c.write_shut.new.disk) c.in_ok-write_shut.was (subst (λ (n : ℕ). g.D.Disk.serves c.args.disk.now (Write 1 n) c.write_shut.result c.write_shut.new.disk) c.requires.header c.write_shut.ensures.serves); any_moment = λ p. c.write_shut.ensures.any_moment p.0 p.1 }, (c.write_shut-2.new.disk, record { served = subst (λ (r : Result Unit DiskFault). g.D.Disk.serves c.write_shut.new.disk (Write 23 (26 + image_size c.args.layout.now)) r c.write_shut-2.new.disk) c.in_ok-write_shut-2.was (subst (λ (n : ℕ). g.D.Disk.serves c.write_shut.new.disk (Write 23 n) c.write_shut-2.result c.write_shut-2.new.disk) c.requires.half c.write_shut-2.ensures.serves); any_moment = λ p. let h0 = c.write_shut.ensures.honest.0 p.0 in let s0 = c.write_shut.ensures.shut p.0 p.1 in c.write_shut-2.ensures.any_moment h0 s0 }, (c.write_shut-3.new.disk, record { served = subst (λ (r : Result Unit DiskFault). g.D.Disk.serves c.write_shut-2.new.disk (Write (half_at c.args.layout.now Second) 1) r c.write_shut-3.new.disk) c.in_ok-write_shut-3.was (subst (λ (n : ℕ). g.D.Disk.serves c.write_shut-2.new.disk (Write n 1) c.write_shut-3.result c.write_shut-3.new.disk) c.half_at.ensures c.write_shut-3.ensures.serves); any_moment = λ p. let h0 = c.write_shut.ensures.honest.0 p.0 in let s0 = c.write_shut.ensures.shut p.0 p.1 in let h1 = c.write_shut-2.ensures.honest.0 h0 in let s1 = c.write_shut-2.ensures.shut h0 s0 in c.write_shut-3.ensures.any_moment h1 s1 }, (c.sync_shut.new.disk, record { served = subst (λ (r : Result Unit DiskFault). g.D.Disk.serves c.write_shut-3.new.disk (Sync) r c.sync_shut.new.disk) c.in_ok-sync_shut.was (c.sync_shut.ensures.serves); any_moment = λ p. let h0 = c.write_shut.ensures.honest.0 p.0 in let s0 = c.write_shut.ensures.shut p.0 p.1 in let h1 = c.write_shut-2.ensures.honest.0 h0 in let s1 = c.write_shut-2.ensures.shut h0 s0 in let h2 = c.write_shut-3.ensures.honest.0 h1 in let s2 = c.write_shut-3.ensures.shut h1 s1 in c.sync_shut.ensures.any_moment h2 s2 }, refl)))); fault = c.in_err-write_shut-4.field-0.0; fails = record { served = subst (λ (r : Result Unit DiskFault). g.D.Disk.serves c.sync_shut.new.disk (Write 23 1) r c.write_shut-4.new.disk) c.in_err-write_shut-4.was (c.write_shut-4.ensures.serves); any_moment = λ p. let h0 = c.write_shut.ensures.honest.0 p.0 in let s0 = c.write_shut.ensures.shut p.0 p.1 in let h1 = c.write_shut-2.ensures.honest.0 h0 in let s1 = c.write_shut-2.ensures.shut h0 s0 in let h2 = c.write_shut-3.ensures.honest.0 h1 in let s2 = c.write_shut-3.ensures.shut h1 s1 in let h3 = c.sync_shut.ensures.honest.0 h2 in let s3 = c.in_ok-sync_shut.ensures.shut h2 s2 in c.write_shut-4.ensures.any_moment h3 s3 } })

pub returns-clause-goes : goal.returns-clause-goes
returns-clause-goes g c = ok_with c.sync_shut-2.result (λ is. (c.write_shut.new.disk, record { served = subst (λ (r : Result Unit DiskFault). g.D.Disk.serves c.args.disk.now (Write 1 22) r c.write_shut.new.disk) c.in_ok-write_shut.was (subst (λ (n : ℕ). g.D.Disk.serves c.args.disk.now (Write 1 n) c.write_shut.result c.write_shut.new.disk) c.requires.header c.write_shut.ensures.serves); any_moment = λ p. c.write_shut.ensures.any_moment p.0 p.1 }, (c.write_shut-2.new.disk, record { served = subst (λ (r : Result Unit DiskFault). g.D.Disk.serves c.write_shut.new.disk (Write 23 (26 + image_size c.args.layout.now)) r c.write_shut-2.new.disk) c.in_ok-write_shut-2.was (subst (λ (n : ℕ). g.D.Disk.serves c.write_shut.new.disk (Write 23 n) c.write_shut-2.result c.write_shut-2.new.disk) c.requires.half c.write_shut-2.ensures.serves); any_moment = λ p. let h0 = c.write_shut.ensures.honest.0 p.0 in let s0 = c.write_shut.ensures.shut p.0 p.1 in c.write_shut-2.ensures.any_moment h0 s0 }, (c.write_shut-3.new.disk, record { served = subst (λ (r : Result Unit DiskFault). g.D.Disk.serves c.write_shut-2.new.disk (Write (half_at c.args.layout.now Second) 1) r c.write_shut-3.new.disk) c.in_ok-write_shut-3.was (subst (λ (n : ℕ). g.D.Disk.serves c.write_shut-2.new.disk (Write n 1) c.write_shut-3.result c.write_shut-3.new.disk) c.half_at.ensures c.write_shut-3.ensures.serves); any_moment = λ p. let h0 = c.write_shut.ensures.honest.0 p.0 in let s0 = c.write_shut.ensures.shut p.0 p.1 in let h1 = c.write_shut-2.ensures.honest.0 h0 in let s1 = c.write_shut-2.ensures.shut h0 s0 in c.write_shut-3.ensures.any_moment h1 s1 }, (c.sync_shut.new.disk, record { served = subst (λ (r : Result Unit DiskFault). g.D.Disk.serves c.write_shut-3.new.disk (Sync) r c.sync_shut.new.disk) c.in_ok-sync_shut.was (c.sync_shut.ensures.serves); any_moment = λ p. let h0 = c.write_shut.ensures.honest.0 p.0 in let s0 = c.write_shut.ensures.shut p.0 p.1 in let h1 = c.write_shut-2.ensures.honest.0 h0 in let s1 = c.write_shut-2.ensures.shut h0 s0 in let h2 = c.write_shut-3.ensures.honest.0 h1 in let s2 = c.write_shut-3.ensures.shut h1 s1 in c.sync_shut.ensures.any_moment h2 s2 }, (c.write_shut-4.new.disk, record { served = subst (λ (r : Result Unit DiskFault). g.D.Disk.serves c.sync_shut.new.disk (Write 23 1) r c.write_shut-4.new.disk) c.in_ok-write_shut-4.was (c.write_shut-4.ensures.serves); any_moment = λ p. let h0 = c.write_shut.ensures.honest.0 p.0 in let s0 = c.write_shut.ensures.shut p.0 p.1 in let h1 = c.write_shut-2.ensures.honest.0 h0 in let s1 = c.write_shut-2.ensures.shut h0 s0 in let h2 = c.write_shut-3.ensures.honest.0 h1 in let s2 = c.write_shut-3.ensures.shut h1 s1 in let h3 = c.sync_shut.ensures.honest.0 h2 in let s3 = c.in_ok-sync_shut.ensures.shut h2 s2 in c.write_shut-4.ensures.any_moment h3 s3 }, (c.sync_shut-2.new.disk, record { served = subst (λ (r : Result Unit DiskFault). g.D.Disk.serves c.write_shut-4.new.disk (Sync) r c.sync_shut-2.new.disk) is (c.sync_shut-2.ensures.serves); any_moment = λ p. let h0 = c.write_shut.ensures.honest.0 p.0 in let s0 = c.write_shut.ensures.shut p.0 p.1 in let h1 = c.write_shut-2.ensures.honest.0 h0 in let s1 = c.write_shut-2.ensures.shut h0 s0 in let h2 = c.write_shut-3.ensures.honest.0 h1 in let s2 = c.write_shut-3.ensures.shut h1 s1 in let h3 = c.sync_shut.ensures.honest.0 h2 in let s3 = c.in_ok-sync_shut.ensures.shut h2 s2 in let h4 = c.write_shut-4.ensures.honest.0 h3 in let s4 = c.write_shut-4.ensures.shut h3 s3 in c.sync_shut-2.ensures.any_moment h4 s4 }, refl)))))))

pub returns-clause-fails : goal.returns-clause-fails
returns-clause-fails g c = err_with c.sync_shut-2.result (λ fault is. record { made = (Behind, Write 1 22) ∷ (Behind, Write 23 (26 + image_size c.args.layout.now)) ∷ (Behind, Write (half_at c.args.layout.now Second) 1) ∷ (Behind, Sync) ∷ (Behind, Write 23 1) ∷ []; call = (Behind, Sync); left = []; are = refl; middle = c.write_shut-4.new.disk; goes = (c.write_shut.new.disk, record { served = subst (λ (r : Result Unit DiskFault). g.D.Disk.serves c.args.disk.now (Write 1 22) r c.write_shut.new.disk) c.in_ok-write_shut.was (subst (λ (n : ℕ). g.D.Disk.serves c.args.disk.now (Write 1 n) c.write_shut.result c.write_shut.new.disk) c.requires.header c.write_shut.ensures.serves); any_moment = λ p. c.write_shut.ensures.any_moment p.0 p.1 }, (c.write_shut-2.new.disk, record { served = subst (λ (r : Result Unit DiskFault). g.D.Disk.serves c.write_shut.new.disk (Write 23 (26 + image_size c.args.layout.now)) r c.write_shut-2.new.disk) c.in_ok-write_shut-2.was (subst (λ (n : ℕ). g.D.Disk.serves c.write_shut.new.disk (Write 23 n) c.write_shut-2.result c.write_shut-2.new.disk) c.requires.half c.write_shut-2.ensures.serves); any_moment = λ p. let h0 = c.write_shut.ensures.honest.0 p.0 in let s0 = c.write_shut.ensures.shut p.0 p.1 in c.write_shut-2.ensures.any_moment h0 s0 }, (c.write_shut-3.new.disk, record { served = subst (λ (r : Result Unit DiskFault). g.D.Disk.serves c.write_shut-2.new.disk (Write (half_at c.args.layout.now Second) 1) r c.write_shut-3.new.disk) c.in_ok-write_shut-3.was (subst (λ (n : ℕ). g.D.Disk.serves c.write_shut-2.new.disk (Write n 1) c.write_shut-3.result c.write_shut-3.new.disk) c.half_at.ensures c.write_shut-3.ensures.serves); any_moment = λ p. let h0 = c.write_shut.ensures.honest.0 p.0 in let s0 = c.write_shut.ensures.shut p.0 p.1 in let h1 = c.write_shut-2.ensures.honest.0 h0 in let s1 = c.write_shut-2.ensures.shut h0 s0 in c.write_shut-3.ensures.any_moment h1 s1 }, (c.sync_shut.new.disk, record { served = subst (λ (r : Result Unit DiskFault). g.D.Disk.serves c.write_shut-3.new.disk (Sync) r c.sync_shut.new.disk) c.in_ok-sync_shut.was (c.sync_shut.ensures.serves); any_moment = λ p. let h0 = c.write_shut.ensures.honest.0 p.0 in let s0 = c.write_shut.ensures.shut p.0 p.1 in let h1 = c.write_shut-2.ensures.honest.0 h0 in let s1 = c.write_shut-2.ensures.shut h0 s0 in let h2 = c.write_shut-3.ensures.honest.0 h1 in let s2 = c.write_shut-3.ensures.shut h1 s1 in c.sync_shut.ensures.any_moment h2 s2 }, (c.write_shut-4.new.disk, record { served = subst (λ (r : Result Unit DiskFault). g.D.Disk.serves c.sync_shut.new.disk (Write 23 1) r c.write_shut-4.new.disk) c.in_ok-write_shut-4.was (c.write_shut-4.ensures.serves); any_moment = λ p. let h0 = c.write_shut.ensures.honest.0 p.0 in let s0 = c.write_shut.ensures.shut p.0 p.1 in let h1 = c.write_shut-2.ensures.honest.0 h0 in let s1 = c.write_shut-2.ensures.shut h0 s0 in let h2 = c.write_shut-3.ensures.honest.0 h1 in let s2 = c.write_shut-3.ensures.shut h1 s1 in let h3 = c.sync_shut.ensures.honest.0 h2 in let s3 = c.in_ok-sync_shut.ensures.shut h2 s2 in c.write_shut-4.ensures.any_moment h3 s3 }, refl))))); fault = fault; fails = record { served = subst (λ (r : Result Unit DiskFault). g.D.Disk.serves c.write_shut-4.new.disk (Sync) r c.sync_shut-2.new.disk) is (c.sync_shut-2.ensures.serves); any_moment = λ p. let h0 = c.write_shut.ensures.honest.0 p.0 in let s0 = c.write_shut.ensures.shut p.0 p.1 in let h1 = c.write_shut-2.ensures.honest.0 h0 in let s1 = c.write_shut-2.ensures.shut h0 s0 in let h2 = c.write_shut-3.ensures.honest.0 h1 in let s2 = c.write_shut-3.ensures.shut h1 s1 in let h3 = c.sync_shut.ensures.honest.0 h2 in let s3 = c.in_ok-sync_shut.ensures.shut h2 s2 in let h4 = c.write_shut-4.ensures.honest.0 h3 in let s4 = c.write_shut-4.ensures.shut h3 s3 in c.sync_shut-2.ensures.any_moment h4 s4 } })
