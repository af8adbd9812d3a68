-- What a file is by the record of its calls, the newest first, if it held the bytes `start` as it was opened.
use Rattle.std.specs.Prelude.{◌≡◌, ◌≢◌, ◌+◌, ℕ, Bool, true, false, not, ◌&&◌, ◌||◌, bytes_eq, if◌then◌else◌, IsTrue, List, [], ◌∷◌, ◌++◌, length, take, drop}
use Rattle.alm_disk.specs.Device.{DeviceState, AreBytes, is_within}
use Rattle.alm_disk.specs.Settled.{IsSettled}
use Rattle.alm_disk.specs.declared.call.Call.{Call}
use Rattle.alm_disk.specs.declared.call.Call.TheVariants.{Read, Write, Sync}
use Rattle.alm_file.specs.Events.{FileEvent}

-- what it reads as, what is pending, and whether each read gave what it read as
pub record Replayed : Type 0 where
  pub state : DeviceState
  pub honest : Bool

-- a call later. A read that was done has to give what the file reads as. A write's range is pending, also after a fault; then the
-- file is taken to read as before, which makes no difference to what a power failure may leave. A sync that was done leaves nothing pending
abbrev pub replayed_call : Call → (done : Bool) → (bytes : List ℕ) → Replayed → Replayed
replayed_call (Read at n) done bytes r = record {
  state = r.state;
  honest = r.honest && (not done || bytes_eq bytes (take n (drop at r.state.bytes)));
}
replayed_call (Write at n) done bytes r = record {
  state = record {
    bytes = if done then take at r.state.bytes ++ bytes ++ drop (at + length bytes) r.state.bytes else r.state.bytes;
    pending = λ place. is_within at (length bytes) place || r.state.pending place;
    faulted = r.state.faulted || not done;
  };
  honest = r.honest;
}
replayed_call Sync done bytes r = record {
  state = record { bytes = r.state.bytes; pending = λ place. not done && r.state.pending place; faulted = not done };
  honest = r.honest;
}

abbrev pub replay : (start : List ℕ) → List FileEvent → Replayed
replay start [] = record { state = record { bytes = start; pending = λ _. false; faulted = false }; honest = true }
replay start (e ∷ earlier) = replayed_call e.call e.done e.bytes (replay start earlier)

abbrev pub replayed_state : (start : List ℕ) → List FileEvent → DeviceState
replayed_state start events = (replay start events).state

-- the file held `start`, as many bytes as it has, and each answer so far is one that an honest device would have given
pub record IsHonestFile (start : List ℕ) (size : ℕ) (events : List FileEvent) : Type 0 where
  pub answers : IsTrue (replay start events).honest
  pub whole : length start ≡ size
  pub are_bytes : AreBytes start

-- a device as it was opened: it reads as `start`, nothing is pending, and it is honest if `start` is as many bytes as it has
pub record BeginsAs (start : List ℕ) (size : ℕ) (honest : Type 0) (state : DeviceState) : Type 0 where
  pub settled : IsSettled state start
  pub is_honest : length start ≡ size → AreBytes start → honest

-- a read or a sync of a file that held `start`, and that nobody has written since
abbrev pub IsTrueAnswer : (start : List ℕ) → Call → (done : Bool) → (bytes : List ℕ) → Type 0
IsTrueAnswer start (Read at n) done bytes = IsTrue (not done || bytes_eq bytes (take n (drop at start)))
IsTrueAnswer start (Write at n) done bytes = ⊥
IsTrueAnswer start Sync done bytes = Unit {0}

-- each is one
abbrev pub AreTrueAnswers : (start : List ℕ) → List FileEvent → Type 0
AreTrueAnswers start [] = Unit {0}
AreTrueAnswers start (e ∷ earlier) = IsTrueAnswer start e.call e.done e.bytes × AreTrueAnswers start earlier

-- none of these calls reads
abbrev pub NoneReads : List FileEvent → Type 0
NoneReads [] = Unit {0}
NoneReads (e ∷ earlier) = ((at n : ℕ) → e.call ≢ Read at n) × NoneReads earlier
