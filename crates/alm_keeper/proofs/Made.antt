-- Calls that were made of a device.
use Rattle.std.proofs.Common.{◌≡◌, ◌≢◌, ℕ, List, [], ◌∷◌, ◌++◌, inl, inr, Result, Ok, Err, refl, sym, subst}
use Rattle.std.specs.Prelude.{IfOk, IfErr}
use Rattle.alm_disk.specs.declared.call.Call.{Call}
use Rattle.alm_disk.specs.declared.call.Call.TheVariants.{Read, Sync}
use Rattle.alm_disk.specs.declared.disk_fault.DiskFault.{DiskFault}
use Rattle.alm_codec.specs.declared.version.Version.TheVariants.{V02}
use Rattle.alm_checkpoint.specs.declared.half.Half.{Half}
use Rattle.alm_checkpoint.specs.declared.half.Half.TheVariants.{First, Second}
use Rattle.alm_checkpoint.specs.declared.layout.Layout.{Layout}
use Rattle.alm_checkpoint.specs.Layouts.{half_at, image_at, image_size, segment_at}
use Rattle.alm_store.specs.Calls.{AreDone, SomeAreDone, OneFails, EndIn, SyncsAndEndsIn}
use Rattle.alm_keeper.specs.Calls.{reads_of}
use Rattle.alm_keeper.specs.declared.book.Book.{Book}
use Rattle.alm_keeper.specs.declared.opening.Marks.{Marks}
use Rattle.alm_store.specs.declared.open_fault.OpenFault.{OpenFault}
use Rattle.alm_store.specs.declared.open_fault.OpenFault.TheVariants.{Unformatted, Damaged, Disk, OutOfMemory}
use Rattle.alm_keeper.specs.Opening.{Restores}
use Rattle.alm_keeper.specs.Stand.{Account}

-- the reads up to a fault are the first ones of some layout and half: those of any do if only the header was read
any_layout : Layout
any_layout = record { rows = 0; areas = 0; segment = 0; version = V02 }

-- the reads after that of the header
pub behind_header : Layout → Half → List Call
behind_header l h = Read (half_at l First) 25 ∷ Read (half_at l Second) 25 ∷ Read (image_at l h) (image_size l) ∷ Read (segment_at l h) l.segment ∷ []

module _ {D : Type 0} (serves : D → Call → Result Unit DiskFault → D → Type 0) where
  pub done_one : (call : Call) (old new : D) → serves old call (Ok tt) new → AreDone serves (call ∷ []) old new
  done_one call old new s = (new, s, refl)

  pub done_then : (xs ys : List Call) (a b c : D) → AreDone serves xs a b → AreDone serves ys b c → AreDone serves (xs ++ ys) a c
  done_then [] ys a b c p q = subst (λ (d : D). AreDone serves ys d c) p q
  done_then (x ∷ xs) ys a b c p q = (p.0, p.1, done_then xs ys p.0 b c p.2 q)

  -- the reads of the book that was made of them
  pub done_by : (l : Layout) (m : Marks) (image segment : List ℕ) (old new : D) (result : Result Book OpenFault) → Restores l m image segment result → AreDone serves (reads_of l m.half) old new → IfOk result (λ book. AreDone serves (reads_of book.layout book.half) old new)
  done_by l m image segment old new (Ok book) r made = subst (λ (a : Account). AreDone serves (reads_of a.layout a.half) old new) (sym r.1) made
  done_by l m image segment old new (Err f) r made = tt

  -- .. after a sync
  pub done_behind : (old between new : D) (result : Result Book OpenFault) → serves old Sync (Ok tt) between → IfOk result (λ book. AreDone serves (reads_of book.layout book.half) between new) → IfOk result (λ book. AreDone serves (Sync ∷ reads_of book.layout book.half) old new)
  done_behind old between new (Ok book) served made = (between, served, made)
  done_behind old between new (Err f) served made = tt

  -- ---- if they end in a fault

  none_done : (calls : List Call) (a b : D) → b ≡ a → SomeAreDone serves calls a b
  none_done [] a b is = is
  none_done (x ∷ xs) a b is = inl is

  some_longer : (xs ys : List Call) (a b : D) → SomeAreDone serves xs a b → SomeAreDone serves (xs ++ ys) a b
  some_longer [] ys a b is = none_done ys a b is
  some_longer (x ∷ xs) ys a b (inl is) = inl is
  some_longer (x ∷ xs) ys a b (inr is) = inr (is.0, is.1, some_longer xs ys is.0 b is.2)

  fails_longer : (xs ys : List Call) (a b : D) → OneFails serves xs a b → OneFails serves (xs ++ ys) a b
  fails_longer [] ys a b is = absurd is
  fails_longer (x ∷ xs) ys a b (inl is) = inl is
  fails_longer (x ∷ xs) ys a b (inr is) = inr (is.0, is.1, fails_longer xs ys is.0 b is.2)

  pub ends_longer : (f : OpenFault) (xs ys : List Call) (a b : D) → EndIn f serves xs a b → EndIn f serves (xs ++ ys) a b
  ends_longer Disk xs ys a b is = fails_longer xs ys a b is
  ends_longer Unformatted xs ys a b is = some_longer xs ys a b is
  ends_longer (Damaged half at) xs ys a b is = some_longer xs ys a b is
  ends_longer OutOfMemory xs ys a b is = some_longer xs ys a b is

  some_behind : (xs ys : List Call) (a b c : D) → AreDone serves xs a b → SomeAreDone serves ys b c → SomeAreDone serves (xs ++ ys) a c
  some_behind [] ys a b c p q = subst (λ (d : D). SomeAreDone serves ys d c) p q
  some_behind (x ∷ xs) ys a b c p q = inr (p.0, p.1, some_behind xs ys p.0 b c p.2 q)

  fails_behind : (xs ys : List Call) (a b c : D) → AreDone serves xs a b → OneFails serves ys b c → OneFails serves (xs ++ ys) a c
  fails_behind [] ys a b c p q = subst (λ (d : D). OneFails serves ys d c) p q
  fails_behind (x ∷ xs) ys a b c p q = inr (p.0, p.1, fails_behind xs ys p.0 b c p.2 q)

  pub ends_behind : (f : OpenFault) (xs ys : List Call) (a b c : D) → AreDone serves xs a b → EndIn f serves ys b c → EndIn f serves (xs ++ ys) a c
  ends_behind Disk xs ys a b c p q = fails_behind xs ys a b c p q
  ends_behind Unformatted xs ys a b c p q = some_behind xs ys a b c p q
  ends_behind (Damaged half at) xs ys a b c p q = some_behind xs ys a b c p q
  ends_behind OutOfMemory xs ys a b c p q = some_behind xs ys a b c p q

  -- a call that failed
  pub ends_failed : (call : Call) (a b : D) (why : DiskFault) → serves a call (Err why) b → EndIn Disk serves (call ∷ []) a b
  ends_failed call a b why s = inl (why, s)

  -- a fault that is not the device's comes after calls that were done, or before the first
  all_done : (calls : List Call) (a b : D) → AreDone serves calls a b → SomeAreDone serves calls a b
  all_done [] a b is = is
  all_done (x ∷ xs) a b is = inr (is.0, is.1, all_done xs is.0 b is.2)

  pub ends_done : {A : Type 0} (calls : List Call) (a b : D) (result : Result A OpenFault) → IfErr result (λ f. f ≢ Disk) → AreDone serves calls a b → IfErr result (λ f. EndIn f serves calls a b)
  ends_done calls a b (Ok x) not is = tt
  ends_done calls a b (Err Disk) not is = absurd (not refl)
  ends_done calls a b (Err Unformatted) not is = all_done calls a b is
  ends_done calls a b (Err (Damaged half at)) not is = all_done calls a b is
  ends_done calls a b (Err OutOfMemory) not is = all_done calls a b is

  -- of the reads of a layout and a half
  abbrev pub Ends : OpenFault → D → D → Type 0
  Ends f old new = (layout : Layout) × (half : Half) × EndIn f serves (reads_of layout half) old new

  pub ends_in_header : (f : OpenFault) (a b : D) → EndIn f serves (Read 0 23 ∷ []) a b → Ends f a b
  unfolding behind_header
  ends_in_header f a b is = (any_layout, First, ends_longer f (Read 0 23 ∷ []) (behind_header any_layout First) a b is)

  -- all of them were done
  pub ends_restored : (l : Layout) (m : Marks) (image segment : List ℕ) (old new : D) (result : Result Book OpenFault) → Restores l m image segment result → AreDone serves (reads_of l m.half) old new → IfErr result (λ f. Ends f old new)
  ends_restored l m image segment old new (Ok book) r made = tt
  ends_restored l m image segment old new (Err Disk) r made = absurd r
  ends_restored l m image segment old new (Err OutOfMemory) r made = (l, m.half, all_done (reads_of l m.half) old new made)
  ends_restored l m image segment old new (Err Unformatted) r made = (l, m.half, all_done (reads_of l m.half) old new made)
  ends_restored l m image segment old new (Err (Damaged half at)) r made = (l, m.half, all_done (reads_of l m.half) old new made)

  -- .. after a sync
  abbrev pub Refused : OpenFault → D → D → Type 0
  Refused f old new = (layout : Layout) × (half : Half) × SyncsAndEndsIn f serves (reads_of layout half) old new

  pub ends_synced : (old between new : D) (result : Result Book OpenFault) → serves old Sync (Ok tt) between → IfErr result (λ f. Ends f between new) → IfErr result (λ f. Refused f old new)
  ends_synced old between new (Ok book) served ends = tt
  ends_synced old between new (Err f) served ends = (ends.0, ends.1, inr (between, served, ends.2))

  pub ends_unsynced : (old new : D) (why : DiskFault) → serves old Sync (Err why) new → Refused Disk old new
  ends_unsynced old new why served = (any_layout, First, inl (refl, (why, served)))
