use Rattle.std.proofs.Common.{◌<◌, length, ap, arith}
use Rattle.alm_wheel.specs.Deadlines.{Schedule}
use Rattle.alm_wheel.proofs.Gathering.{room_behind}
use Rattle.alm_wheel.proofs.wheel.Wheel.gather.Goals as goal

pub append-requires-clause-room : goal.append-requires-clause-room
append-requires-clause-room c =
    let long = ap (λ (w : Schedule). length w.deadlines) c.self.view_is in
    let turn : c.loop-turn.turn < 256 = omega arith in
    let room = room_behind c.self.inside.deadlines.items c.self.inside.slots c.args.from c.loop-turn.turn c.slot_of.result c.loop-turn.out.items c.self.invariant turn c.slot_of.ensures c.loop-turn.invariant.0 in
    omega (arith, long, room, c.requires.room, c.loop-turn.invariant.1)
