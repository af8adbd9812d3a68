-- Which call of a device is that of a stage, and which are those of an opening.
use Rattle.std.specs.Prelude.{ℕ, ◌+◌, List, [], ◌∷◌}
use Rattle.alm_checkpoint.specs.declared.layout.Layout.{Layout}
use Rattle.alm_checkpoint.specs.declared.half.Half.{Half}
use Rattle.alm_checkpoint.specs.declared.half.Half.TheVariants.{First, Second}
use Rattle.alm_checkpoint.specs.Layouts.{header_len, head_len, half_at, image_at, image_size, segment_at}
use Rattle.alm_disk.specs.declared.call.Call.{Call}
use Rattle.alm_disk.specs.declared.call.Call.TheVariants.{Read, Write, Sync}
use Rattle.alm_keeper.specs.declared.stage.Stage.{Stage}
use Rattle.alm_keeper.specs.declared.stage.Stage.TheVariants.{Close, Body, Gate, Retire}

-- the call of a stage, for the gate at a place and n bytes after it
abbrev pub stage_call : Stage → (at n : ℕ) → Call
stage_call Close at n = Write at 1
stage_call Body at n = Write (at + 1) n
stage_call Gate at n = Write at 1
stage_call Retire at n = Write at 1
stage_call stage at n = Sync

-- the reads of an opening: the header, the heads of both halves, and of the half that stands the image and the segment, each once
abbrev pub reads_of : Layout → Half → List Call
reads_of l h =
    Read 0 header_len ∷ Read (half_at l First) head_len ∷ Read (half_at l Second) head_len ∷ Read (image_at l h) (image_size l) ∷ Read (segment_at l h) l.segment ∷ []
