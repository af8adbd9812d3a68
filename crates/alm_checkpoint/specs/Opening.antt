-- Opening the bytes of a device: the header, the half that stands and its head, in the order in which faults are
-- reported.
use Rattle.std.specs.Prelude.{ℕ, ◌+◌, ◌-◌, ◌&&◌, List, length, drop, Bool, true, false, Result, Ok, Err, nat_lt, nat_le, ◌==◌, if◌then◌else◌}
use Rattle.std.specs.Int.{w64, from_be_bytes}
use Rattle.alm_checkpoint.specs.declared.layout.Layout.{Layout}
use Rattle.alm_checkpoint.specs.declared.half.Half.{Half}
use Rattle.alm_checkpoint.specs.declared.half.Half.TheVariants.{First, Second}
use Rattle.alm_checkpoint.specs.declared.device_fault.DeviceFault.{DeviceFault}
use Rattle.alm_checkpoint.specs.declared.device_fault.DeviceFault.TheVariants.{Unformatted, Damaged}
use Rattle.alm_checkpoint.specs.declared.no_choice.NoChoice.{NoChoice}
use Rattle.alm_checkpoint.specs.declared.no_choice.NoChoice.TheVariants.{NoneOpen, EqualEpochs}
use Rattle.alm_checkpoint.specs.declared.half_head.HalfHead.{HalfHead}
use Rattle.alm_checkpoint.specs.Layouts.{layout_byte, is_header_open, is_half_open, part, header_len, head_len, half_at, image_at, segment_at, image_size, half_number, other}
use Rattle.alm_checkpoint.specs.Headers.{header, half_head, is_summed}

infixl 10 ◌>>=◌
abbrev pub ◌>>=◌ : {A B : Type 0} → Result A DeviceFault → (A → Result B DeviceFault) → Result B DeviceFault
(Ok x) >>= f = f x
(Err e) >>= f = Err e

-- a rule that holds, or else a fault
abbrev pub rule : Bool → DeviceFault → Result Unit DeviceFault
rule true fault = Ok tt
rule false fault = Err fault

-- what was read up to a place of the device, or damage in a half; a reader returns how many bytes were left up to that place
abbrev pub read_to : {A : Type 0} → (half end : ℕ) → Result A ℕ → Result A DeviceFault
read_to half end (Ok x) = Ok x
read_to half end (Err left) = Err (Damaged half (end - left))

-- the layout of a device of a size, by its first 23 bytes
unfoldable pub layout_from : (size : ℕ) → List ℕ → Result Layout DeviceFault
layout_from size start = do
  _ ← rule (nat_le header_len (length start)) Unformatted
  _ ← rule (is_header_open (layout_byte start 0)) Unformatted
  l ← read_to 2 header_len ((header size).read (drop 1 start))
  Ok l.0

-- the half that stands: the one with an open gate; if both gates are open, the one with the greater epoch
abbrev pub choice : (first second : Bool) → (epoch epoch' : ℕ) → Result Half NoChoice
choice false false epoch epoch' = Err NoneOpen
choice true false epoch epoch' = Ok First
choice false true epoch epoch' = Ok Second
choice true true epoch epoch' = if epoch == epoch' then Err EqualEpochs else if nat_lt epoch epoch' then Ok Second else Ok First

-- if no gate is open: damage of the header; if both are and the epochs are equal: damage of half 1 at its epoch
abbrev pub no_half : Layout → NoChoice → DeviceFault
no_half l NoneOpen = Damaged 2 (half_at l First)
no_half l EqualEpochs = Damaged 1 (half_at l Second + 1)

abbrev pub or_fault : Layout → Result Half NoChoice → Result Half DeviceFault
or_fault l (Ok h) = Ok h
or_fault l (Err why) = Err (no_half l why)

-- whether a half's gate is open, and the half's epoch, by the bytes of its head
abbrev pub gate_in : List ℕ → Bool
gate_in bytes = is_half_open (layout_byte bytes 0)

abbrev pub epoch_in : List ℕ → ℕ
epoch_in bytes = from_be_bytes w64 (part 1 8 bytes)

-- the half that stands, by the bytes of both heads
abbrev pub chosen_from : Layout → (first second : List ℕ) → Result Half DeviceFault
chosen_from l first second = or_fault l (choice (gate_in first) (gate_in second) (epoch_in first) (epoch_in second))

-- what the head of a half says, by its bytes
unfoldable pub half_head_from : Layout → Half → List ℕ → Result HalfHead DeviceFault
half_head_from l h bytes = do
  x ← read_to (half_number h) (image_at l h) ((half_head l h).read (drop 1 bytes))
  Ok x.0

-- what was read is whole; its value counts for nothing
abbrev pub checked : {A : Type 0} → Result A DeviceFault → Result Unit DeviceFault
checked (Ok x) = Ok tt
checked (Err fault) = Err fault

-- the head of the half that doesn't stand has to be whole in version 03, if its gate is open
abbrev pub beside_from : Layout → Half → List ℕ → Result Unit DeviceFault
beside_from l h bytes = if is_summed l.version && gate_in bytes then checked (half_head_from l h bytes) else Ok tt

-- one of two heads
abbrev pub head_by : Half → (first second : List ℕ) → List ℕ
head_by First first second = first
head_by Second first second = second

-- the half that stands and what its head says, by the bytes of both heads
unfoldable pub heads_from : Layout → (first second : List ℕ) → Result (Half × HalfHead) DeviceFault
heads_from l first second = do
  h ← chosen_from l first second
  t ← half_head_from l h (head_by h first second)
  _ ← beside_from l (other h) (head_by (other h) first second)
  Ok (h, t)

-- ---- on a device

abbrev pub head_of : Layout → Half → List ℕ → List ℕ
head_of l h device = part (half_at l h) head_len device

abbrev pub layout_in : List ℕ → Result Layout DeviceFault
layout_in device = layout_from (length device) (part 0 header_len device)

abbrev pub heads_in : Layout → List ℕ → Result (Half × HalfHead) DeviceFault
heads_in l device = heads_from l (head_of l First device) (head_of l Second device)

-- the layout, the half that stands, what its head says, and its image and segment
pub record Opened : Type 0 where
  pub layout : Layout
  pub half : Half
  pub head : HalfHead
  pub image : List ℕ
  pub segment : List ℕ

abbrev pub opened_with : Layout → Half → HalfHead → (image segment : List ℕ) → Opened
opened_with l h t image segment = record { layout = l; half = h; head = t; image = image; segment = segment }

abbrev pub opened_half : Layout → Half → HalfHead → List ℕ → Opened
opened_half l h t device = opened_with l h t (part (image_at l h) (image_size l) device) (part (segment_at l h) l.segment device)

unfoldable pub opened_in : List ℕ → Result Opened DeviceFault
opened_in device = do
  l ← layout_in device
  x ← heads_in l device
  Ok (opened_half l x.0 x.1 device)
