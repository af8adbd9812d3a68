use Rattle.std.proofs.Common.{rules, ◌≡◌, ℕ, length, Ok, subst}
use Rattle.alm_disk.specs.declared.call.Call.TheVariants.{Read}
use Rattle.alm_keeper.proofs.Made.{done_one}
use Rattle.alm_keeper.proofs.opening.read_room.Goals as goal

pub returns-in-Ok-fill-clause-made : goal.returns-in-Ok-fill-clause-made
returns-in-Ok-fill-clause-made g c =
    let serves = g.D.Disk.serves in
    let long : length c.in-Ok.room.items ≡ c.args.len = search rules in
    done_one serves (Read c.args.at c.args.len) c.args.disk.now c.fill.new.disk (subst (λ (n : ℕ). serves c.args.disk.now (Read c.args.at n) (Ok tt) c.fill.new.disk) long c.in-Ok-fill.ensures.serves)
