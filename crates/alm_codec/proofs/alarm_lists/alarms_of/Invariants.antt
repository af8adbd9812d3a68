use Rattle.std.proofs.Common.{◌≡◌, ◌-◌, [], length}
use Rattle.alm_codec.specs.Format.{read_each}
use Rattle.alm_codec.specs.ImageFields.{alarm_field, alarms_in, seen_then}
use Rattle.alm_codec.proofs.Loops.{with_front}
use Rattle.alm_codec.proofs.alarm_lists.alarms_of.Given as goal

abbrev pub invariant-loop : goal.invariant-loop
invariant-loop l = record {
  attrs : length l.lists.attrs.items ≡ l.counter;
  rows : length l.lists.rows.items ≡ l.counter;
  moments : length l.lists.moments.items ≡ l.counter;
  so_far : with_front (alarms_in l.lists.attrs.items l.lists.rows.items l.lists.moments.items) (read_each (alarm_field l.clock l.next_stamp l.areas) (λ seen a. seen_then seen a.state.stamp) l.lists.seen.keys (l.rows - l.counter) l.rest)
      ≡ read_each (alarm_field l.clock l.next_stamp l.areas) (λ seen a. seen_then seen a.state.stamp) [] l.rows l.bytes;
}
