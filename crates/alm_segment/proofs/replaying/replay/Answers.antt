use Rattle.std.proofs.Common.{◌∙◌, ap, sym, subst, ℕ, Ok, Err}
use Rattle.alm_segment.specs.Folding.{stored_in, Replays}
use Rattle.alm_segment.specs.Scanning.{ahead, size_of, place_of}
use Rattle.alm_segment.proofs.Replays.{replay_refused}
use Rattle.alm_segment.proofs.replaying.replay.Goals as goal

pub returns-then-is_err : goal.returns-then-is_err
returns-then-is_err g c =
    let size = size_of c.loop-action.scanner in
    let plant = g.P.Alarms.plant c.loop-action.plant in
    let place = place_of c.next_action.new.self in
    let stored = stored_in c.args.version c.args.epoch (g.P.Alarms.plant c.args.plant.now) c.args.segment.now in
    let stops = replay_refused size plant plant (ahead c.loop-action.scanner) (ahead c.next_action.new.self) stored (Ok c.in_ok-action.field-0) c.in-Some.action place c.admits.result
    c.loop-action.invariant.same (ap (λ x. Ok x) c.in-Some.is) c.in_ok-action.ensures.answers c.admits.ensures (sym c.is_err.ensures.value ∙ c.if-is_err.true) in
    subst (λ (n : ℕ). Replays n stored (Err (record { at = c.end.result })) plant) c.loop-action.invariant.size
    (subst (λ (p : ℕ). Replays size stored (Err (record { at = p })) plant) (sym c.end.ensures) stops)
