use Rattle.std.proofs.Common.{ℕ, sym, subst, Result, Ok, Err, true≢false, refl}
use Rattle.std.specs.Prelude.{IsErr}
use Rattle.std.proofs.Math.Logic.{∥∥₁_map}
use Rattle.alm_disk.specs.declared.disk_fault.DiskFault.{DiskFault}
use Rattle.alm_keeper.proofs.Going.{goes_on, ends_by, gone_layout, leaves_saying, stops, not_failed}
use Rattle.alm_keeper.proofs.Starting.{still_fits}
use Rattle.alm_keeper.specs.Keeping.{FitsDevice}
use Rattle.alm_keeper.proofs.advancing.advance.Goals as goal

pub returns-in-Ok-clause-fits : goal.returns-in-Ok-clause-fits
returns-in-Ok-clause-fits g c =
    let same = gone_layout c.args.book.now.stage c.args.book.now.work c.go_on.result c.args.book.now c.go_on.new.self c.go_on.ensures.goes in
    still_fits c.args.book.now c.go_on.new.self _ same (subst (λ (n : ℕ). FitsDevice c.args.book.now n) (sym c.call_next.ensures.same.1) c.requires.fits)

pub returns-in-Ok-clause-ends : goal.returns-in-Ok-clause-ends
returns-in-Ok-clause-ends g c = ends_by c.go_on.result c.args.book.now c.go_on.new.self c.go_on.ensures.goes

pub returns-in-Ok-clause-keeps : goal.returns-in-Ok-clause-keeps
returns-in-Ok-clause-keeps g c = λ honest keeps.
    ∥∥₁_map (c.in-Ok.ensures.passes honest keeps)
    (λ p. goes_on c.go_on.result c.args.book.now c.go_on.new.self (g.D.Disk.state c.call_next.new.disk) c.requires.in_order c.requires.working (g.D.Disk.state c.args.disk.now) (Ok tt) refl c.go_on.ensures.goes p)

pub returns-in-Ok-clause-any_moment : goal.returns-in-Ok-clause-any_moment
returns-in-Ok-clause-any_moment g c = λ honest keeps.
    ∥∥₁_map (c.in-Ok.ensures.passes honest keeps) (λ p. leaves_saying c.args.book.now c.requires.in_order c.requires.working (Ok tt) (g.D.Disk.state c.args.disk.now) (g.D.Disk.state c.call_next.new.disk) p)

pub returns-in-Err-clause-keeps : goal.returns-in-Err-clause-keeps
returns-in-Err-clause-keeps g c = λ honest keeps.
    ∥∥₁_map (c.in-Err.ensures.passes honest keeps) (λ p. stops c.args.book.now c.requires.in_order c.requires.working (Err c.in-Err.field-0) (g.D.Disk.state c.args.disk.now) (g.D.Disk.state c.call_next.new.disk) p)

pub returns-in-Err-clause-any_moment : goal.returns-in-Err-clause-any_moment
returns-in-Err-clause-any_moment g c = λ honest keeps.
    ∥∥₁_map (c.in-Err.ensures.passes honest keeps) (λ p. leaves_saying c.args.book.now c.requires.in_order c.requires.working (Err c.in-Err.field-0) (g.D.Disk.state c.args.disk.now) (g.D.Disk.state c.call_next.new.disk) p)

pub returns-in-Ok-clause-call : goal.returns-in-Ok-clause-call
returns-in-Ok-clause-call g c =
    let fine : IsErr c.call_next.result → ⊥ = λ err. true≢false (sym (subst (λ (r : Result Unit DiskFault). IsErr r) c.in-Ok.is err)) in
    record {
      result = c.call_next.result;
      served = c.call_next.ensures.serves;
      makes = c.call_next.ensures.makes;
      fault = (λ failed. absurd (not_failed c.args.book.now.stage c.args.book.now.work c.go_on.result c.args.book.now c.go_on.new.self c.go_on.ensures.goes failed), λ err. absurd (fine err));
    }
