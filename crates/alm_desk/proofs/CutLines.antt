-- The writer fails in an entry.
use Rattle.std.proofs.Common.{ℕ, List, Option, refl, inl, inr}
use Rattle.std.specs.Io.KnownBytes.{Appends}
use Rattle.alm_lines.specs.Line.{line_of}
use Rattle.alm_lines.specs.Written.{IsCutShort}
use Rattle.alm_desk.specs.Answers.{DeskState}
use Rattle.alm_desk.specs.Failing.{IsCutLine}
use Rattle.alm_desk.specs.DeskLines.{IsCutDeskLine, head, desk_request}

-- before the reply
pub cut_in_head : {o n : Option (List ℕ)} (s : DeskState) (slot : ℕ) (line : List ℕ) → IsCutShort o n (head slot) → IsCutDeskLine s (desk_request slot line) o s n
cut_in_head s slot line p = inl (p, refl)

-- in the reply
pub cut_in_reply : {s later : DeskState} {o m n : Option (List ℕ)} (slot : ℕ) (line : List ℕ) → Appends o m (head slot) → IsCutLine s (record { slot = slot; line = line_of line }) m later n
    → IsCutDeskLine s (desk_request slot line) o later n
cut_in_reply {m = m} slot line w p = inr (record { between = m; slot = w; reply = p })
