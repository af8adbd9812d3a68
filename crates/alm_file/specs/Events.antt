-- The calls that were made on a file, with their answers.
use Rattle.std.specs.Prelude.{ℕ, zero, suc, Bool, List, slice_index, ◌==◌}
use Rattle.alm_disk.specs.declared.call.Call.{Call}
use Rattle.alm_disk.specs.declared.call.Call.TheVariants.{Read, Write, Sync}

-- a call, whether it was done, and the bytes that it gave or took
pub record FileEvent : Type 0 where
  pub call : Call
  pub done : Bool
  pub bytes : List ℕ

-- the call of a kind: 0 reads, 1 writes, any other syncs
abbrev pub call_of_kind : (kind at n : ℕ) → Call
call_of_kind zero at n = Read at n
call_of_kind (suc zero) at n = Write at n
call_of_kind (suc (suc more)) at n = Sync

-- the event of these numbers: kind, place, length, and 1 if it was done
abbrev pub event_of : (numbers bytes : List ℕ) → FileEvent
event_of numbers bytes = record {
  call = call_of_kind (slice_index numbers 0) (slice_index numbers 1) (slice_index numbers 2);
  done = slice_index numbers 3 == 1;
  bytes = bytes;
}
