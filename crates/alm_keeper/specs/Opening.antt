-- Opening a device.
use Rattle.std.specs.Prelude.{◌≡◌, ◌∷◌, ℕ, List, [], Result, Ok, Err}
use Rattle.alm_disk.specs.Device.{IsImage}
use Rattle.alm_disk.specs.Failures.{HasFailed}
use Rattle.alm_disk.specs.Settled.{IsSettled}
use Rattle.alm_disk.specs.declared.call.Call.{Call}
use Rattle.alm_disk.specs.declared.call.Call.TheVariants.{Sync}
use Rattle.alm_disk.specs.declared.disk.Disk as device
use Rattle.alm_checkpoint.specs.declared.layout.Layout.{Layout}
use Rattle.alm_checkpoint.specs.declared.half.Half.{Half}
use Rattle.alm_checkpoint.specs.declared.half.Half.TheVariants.{First, Second}
use Rattle.alm_keeper.specs.declared.opening.Marks.{Marks}
use Rattle.alm_checkpoint.specs.declared.device_fault.DeviceFault.{DeviceFault}
use Rattle.alm_checkpoint.specs.declared.device_fault.DeviceFault.TheVariants as found
use Rattle.alm_checkpoint.specs.Layouts.{other}
use Rattle.alm_checkpoint.specs.Opening.{Opened, heads_from, head_by, head_of, gate_in}
use Rattle.alm_checkpoint.specs.Standing.{HasFault}
use Rattle.alm_checkpoint.specs.Restoring.{IsUnrestored}
use Rattle.alm_checkpoint.specs.Restoring.{Holds as RestoredAs}
use Rattle.alm_checkpoint.specs.declared.restore_fault.RestoreFault.TheVariants as unrestored
use Rattle.alm_store.specs.Calls.{AreDone, SyncsAndEndsIn}
use Rattle.alm_store.specs.declared.open_fault.OpenFault.{OpenFault}
use Rattle.alm_store.specs.declared.open_fault.OpenFault.TheVariants.{Unformatted, Damaged, Disk, OutOfMemory}
use Rattle.alm_keeper.specs.declared.book.Book.{Book}
use Rattle.alm_codec.specs.declared.asked.Asked.{Asked}
use Rattle.alm_keeper.specs.Stand.{Ready, saying}
use Rattle.alm_keeper.specs.Keeping.{account}
use Rattle.alm_keeper.specs.Calls.{reads_of}

abbrev pub open_fault : DeviceFault → OpenFault
open_fault found.Unformatted = Unformatted
open_fault (found.Damaged half at) = Damaged half at

-- the device fails, or the count of its failures stays
abbrev pub CountsOpening : {A : Type 0} → Result A OpenFault → (before now : ℕ) → Type 0
CountsOpening (Ok x) before now = now ≡ before
CountsOpening (Err Disk) before now = HasFailed before now
CountsOpening (Err fault) before now = now ≡ before

-- a fault of the device is returned only if it failed
abbrev pub CountsAs : OpenFault → (before now : ℕ) → Type 0
CountsAs Disk before now = HasFailed before now
CountsAs fault before now = now ≡ before

-- a value that is read of the bytes, or their fault; a fault of the device or out of memory says nothing
abbrev pub IsReadOf : {A : Type 0} → Result A OpenFault → Result A DeviceFault → Type 0
IsReadOf (Ok x) read = read ≡ Ok x
IsReadOf (Err Disk) read = Unit {0}
IsReadOf (Err OutOfMemory) read = Unit {0}
IsReadOf (Err Unformatted) read = read ≡ Err found.Unformatted
IsReadOf (Err (Damaged half at)) read = read ≡ Err (found.Damaged half at)

-- the device was opened: its book is as the bytes are; or the fault is theirs
abbrev pub OpensAs : (bytes : List ℕ) → Result Book OpenFault → Type 0
OpensAs bytes (Ok book) = (trail : List Asked) × Ready (saying trail (account book)) bytes
OpensAs bytes (Err Disk) = Unit {0}
OpensAs bytes (Err OutOfMemory) = Unit {0}
OpensAs bytes (Err Unformatted) = HasFault bytes found.Unformatted
OpensAs bytes (Err (Damaged half at)) = HasFault bytes (found.Damaged half at)

-- the half that stands, what its head says, and whether the other half's gate is open; or the fault
abbrev pub MarksFrom : Layout → (first second : List ℕ) → Result Marks OpenFault → Type 0
MarksFrom l first second (Ok m) = (heads_from l first second ≡ Ok (m.half, m.head)) × (m.other_open ≡ gate_in (head_by (other m.half) first second))
MarksFrom l first second (Err Disk) = Unit {0}
MarksFrom l first second (Err OutOfMemory) = Unit {0}
MarksFrom l first second (Err Unformatted) = heads_from l first second ≡ Err found.Unformatted
MarksFrom l first second (Err (Damaged half at)) = heads_from l first second ≡ Err (found.Damaged half at)

abbrev pub AreMarks : Layout → List ℕ → Result Marks OpenFault → Type 0
AreMarks l b result = MarksFrom l (head_of l First b) (head_of l Second b) result

abbrev pub opened_by : Layout → Marks → (image segment : List ℕ) → Opened
opened_by l m image segment = record { layout = l; half = m.half; head = m.head; image = image; segment = segment }

-- the book of what the half holds, or why it holds nothing
abbrev pub Restores : Layout → Marks → (image segment : List ℕ) → Result Book OpenFault → Type 0
Restores l m image segment (Ok book) = RestoredAs (opened_by l m image segment) book.stored book.gate × (account book ≡ record { layout = l; half = m.half; other_open = m.other_open; version = m.head.version; epoch = m.head.epoch; gate = book.gate; plant = book.stored; trail = [] })
Restores l m image segment (Err Disk) = ⊥
Restores l m image segment (Err OutOfMemory) = Unit {0}
Restores l m image segment (Err Unformatted) = IsUnrestored (opened_by l m image segment) (unrestored.Damaged found.Unformatted)
Restores l m image segment (Err (Damaged half at)) = IsUnrestored (opened_by l m image segment) (unrestored.Damaged (found.Damaged half at))

module _ {D : Type 0} (d : device.Ghosts D) where
  -- a device of which was only read: it has its size, it is settled if it was, and it kept to the model before if it does so now
  pub record IsOnlyRead (old new : D) : Type 0 where
    pub honest : d.honest new → d.honest old
    pub size : d.size new ≡ d.size old
    pub keeps : (b : List ℕ) → IsSettled (d.state old) b → IsSettled (d.state new) b

  -- a sync and these reads were made of it, each was done, and no byte was written. It reads as one of the images before, and that
  -- is the only one now
  pub record IsOpenedBy (reads : List Call) (old new : D) : Type 0 where
    pub made : AreDone d.serves (Sync ∷ reads) old new
    pub honest : d.honest new → d.honest old
    pub image : d.honest old → IsImage (d.state old) (d.state new).bytes
    pub settled : d.honest old → IsSettled (d.state new) (d.state new).bytes
    pub unwritten : d.honest old → (b : List ℕ) → IsImage (d.state new) b → IsImage (d.state old) b
    pub counted : d.failures new ≡ d.failures old

  -- it was refused with this fault: a sync and reads were made up to it, and no byte was written. The fault is that of the bytes, or
  -- of the device, and only then a call of it failed
  pub record IsUnopened (fault : OpenFault) (old new : D) : Type 0 where
    pub made : (layout : Layout) × (half : Half) × SyncsAndEndsIn fault d.serves (reads_of layout half) old new
    pub honest : d.honest new → d.honest old
    pub unwritten : d.honest old → (b : List ℕ) → IsImage (d.state new) b → IsImage (d.state old) b
    pub bytes : d.honest new → OpensAs (d.state new).bytes (Err fault)
    pub counts : CountsAs fault (d.failures old) (d.failures new)
