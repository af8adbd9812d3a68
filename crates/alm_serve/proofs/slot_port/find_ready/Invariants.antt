use Rattle.std.proofs.Common.{◌≡◌}
use Rattle.alm_serve.specs.Service.{by_wire, stage}
use Rattle.alm_serve.specs.StreamWires.{wire_counts}
use Rattle.alm_serve.proofs.slot_port.find_ready.Given as goal

-- the session stays, and so does the connection but for when its wire reads
abbrev pub invariant-loop-event : goal.invariant-loop-event
invariant-loop-event l = record {
  session : l.service.session ≡ l.fn.service.session;
  stage : stage l.service.connection ≡ stage l.fn.service.connection;
  traffic : by_wire (λ wire. wire.traffic) l.service.connection ≡ by_wire (λ wire. wire.traffic) l.fn.service.connection;
  counts : by_wire wire_counts l.service.connection ≡ by_wire wire_counts l.fn.service.connection;
}
