use Rattle.std.proofs.Common.{◌≡◌, ◌≤◌, ◌+◌, ◌*◌, ◌++◌, take}
use Rattle.std.specs.Prelude.{vec_capacity, vec_len}
use Rattle.std.specs.List.{flat_map}
use Rattle.alm_lines.specs.Since.{event_text}
use Rattle.alm_session.proofs.since.put_events.Given as goal

-- the events so far were put
abbrev pub invariant-loop-event : goal.invariant-loop-event
invariant-loop-event l = record {
  items : l.text.items ≡ l.fn.text.items ++ flat_map event_text (take l.event-index l.events);
  len : vec_len l.text ≤ vec_len l.fn.text + 48 * l.event-index;
  room : vec_capacity l.fn.text ≤ vec_capacity l.text;
}
