use Rattle.std.proofs.Common.{◌≡◌, ◌≤◌, length, ap, sym, ◌∙◌, subst}
use Rattle.std.specs.Prelude.{ℕ}
use Rattle.alm_keeper.proofs.Formed.{gate_moments}
use Rattle.alm_keeper.proofs.formatting.open_gate.Goals as goal

pub returns-clause-any_moment : goal.returns-clause-any_moment
returns-clause-any_moment g c = λ b image honest settled closed moment.
    let size : g.D.Disk.size c.args.disk.now ≡ length b = sym (g.met.D.Disk.whole c.args.disk.now honest) ∙ ap length settled.reads in
    gate_moments c.write_at.result (g.D.Disk.state c.args.disk.now) (g.D.Disk.state c.write_at.new.self) b image (subst (λ (n : ℕ). 1 ≤ n) size c.requires.gate) settled closed (c.write_at.ensures.writes honest) moment
