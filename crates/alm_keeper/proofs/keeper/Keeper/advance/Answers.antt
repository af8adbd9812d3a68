use Rattle.std.proofs.Common.{◌≡◌, ◌≢◌, ◌≤◌, ap, subst}
use Rattle.alm_disk.specs.Failures.{HasFailed}
use Rattle.alm_store.specs.declared.progress.Progress.TheVariants.{Failed}
use Rattle.alm_keeper.proofs.Standings.{moments_of, says_of, advances_of}
use Rattle.alm_keeper.proofs.Called.{calls_of, sends_piece}
use Rattle.alm_keeper.proofs.StoreCalls.{counts_failures}
use Rattle.alm_keeper.proofs.keeper.Keeper.advance.Goals as goal

pub returns-clause-any_moment : goal.returns-clause-any_moment
returns-clause-any_moment g c = moments_of g.D.Disk.honest g.D.Disk.state c.self.inside.disk c.self.inside.book c.args.self.now c.self.view_is c.self.invariant.0 c.self.invariant.2 (g.D.Disk.state c.advance.new.disk) (λ honest. c.advance.ensures.any_moment honest (c.self.invariant.2 honest))

pub returns-clause-says : goal.returns-clause-says
returns-clause-says g c = says_of g.D.Disk.honest g.D.Disk.state c.self.inside.disk c.self.inside.book c.args.self.now c.self.view_is c.self.invariant.0 c.self.invariant.2 (g.D.Disk.state c.advance.new.disk) (λ honest. c.advance.ensures.any_moment honest (c.self.invariant.2 honest))

pub returns-clause-advances : goal.returns-clause-advances
returns-clause-advances g c = advances_of g.row.D.Denot c.self.inside.disk c.advance.new.disk c.self.inside.book c.advance.new.book c.args.self.now c.advance.result c.self.view_is c.advance.ensures.ends

pub returns-clause-call : goal.returns-clause-call
returns-clause-call g c = calls_of g.D.Disk c.self.inside.disk c.advance.new.disk c.self.inside.book c.args.self.now c.advance.result c.self.view_is c.advance.ensures.call

pub returns-clause-piece : goal.returns-clause-piece
returns-clause-piece g c = λ at is done.
    sends_piece c.advance.result c.args.self.now _ at is done (advances_of g.row.D.Denot c.self.inside.disk c.advance.new.disk c.self.inside.book c.advance.new.book c.args.self.now c.advance.result c.self.view_is c.advance.ensures.ends)

pub returns-clause-counts : goal.returns-clause-counts
returns-clause-counts g c =
    let e = c.advance.ensures.counts in
    let failures = g.D.Disk.failures in
    let was : c.self.inside.disk ≡ c.args.self.now.disk = ap (λ k. k.disk) c.self.view_is in
    counts_failures c.advance.result (failures c.args.self.now.disk) (failures c.advance.new.disk)
    (subst (λ disk. failures disk ≤ failures c.advance.new.disk) was e.0)
    (subst (λ disk. c.advance.result ≢ Failed → failures c.advance.new.disk ≡ failures disk) was e.1)
    (subst (λ disk. c.advance.result ≡ Failed → HasFailed (failures disk) (failures c.advance.new.disk)) was e.2)
