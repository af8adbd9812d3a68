use Rattle.std.proofs.Common.{rules, ◌∷◌}
use Rattle.alm_threads.specs.Sources.{source_state}
use Rattle.alm_threads.proofs.source_thread.run_source.Goals.{in-None, in-Some+then-is_stopped, in-Some+else-is_stopped+in-End}
use Rattle.alm_threads.proofs.source_thread.run_source.Goals as goal

pub loop-preserved-in-Go : goal.loop-preserved-in-Go
loop-preserved-in-Go g c =
    let inv = c.loop.invariant in
    record {
      same = search rules;
      slot = search rules;
      turns = (source_state c.loop.source c.loop.look c.loop.console ∷ inv.turns.0, (c.turn-go.ensures.did, inv.turns.1));
    }

pub loop-preserved : goal.loop-preserved
loop-preserved g c =
    let inv = c.loop.invariant in
    record {
      same = search rules;
      slot = search rules;
      turns = (source_state c.loop.source c.loop.look c.loop.console ∷ inv.turns.0, (c.turn-go.ensures.did, inv.turns.1));
    }

pub returns-clause-accounts : goal.returns-clause-accounts
returns-clause-accounts g c =
    let l = c.loop in
    let inv = l.invariant in
    elim c.match-next.branch [
      | in-None w ↦ rw (w.source-is, w.console-is) (record { look = l.look; before = inv.turns.0; turns = inv.turns.1 })
      | in-Some+then-is_stopped w ↦ rw (w.source-is, w.console-is) (record { look = l.look; before = inv.turns.0; turns = inv.turns.1 })
      | in-Some+else-is_stopped+in-End w ↦ rw (w.source-is, w.console-is) (record {
        look = w.turn-go.new.look;
        before = source_state l.source l.look l.console ∷ inv.turns.0;
        turns = (w.turn-go.ensures.did, inv.turns.1);
      })
    ]
