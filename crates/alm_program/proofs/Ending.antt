-- How the printing of a plant ends.
use Rattle.std.proofs.Common.{◌≡◌, ℕ, List, [], Option, Result, Ok, Err, sym, append-nil}
use Rattle.std.specs.Bool.{⊤}
use Rattle.std.specs.Prelude.{IsErr}
use Rattle.std.specs.Io.KnownBytes.{Appends, Keeps}
use Rattle.std.proofs.KnownBytes.{Appends-kept}
use Rattle.alm_model.specs.Plant.{Condensed}
use Rattle.alm_lines.specs.Written.{IsCutShort, Prints}
use Rattle.alm_export.specs.Showing.{plant_text}

-- showing the plant broke off
pub shown_in_part : {E : Type 0} (o n : Option (List ℕ)) (q q' : Condensed) (epoch epoch' : ℕ) (r : Result ⊤ E) → IsErr r → q' ≡ q → epoch' ≡ epoch
    → IsCutShort o n (plant_text q' epoch') → Prints o n (plant_text q epoch) r
shown_in_part {E} o n q q' epoch epoch' (Ok x) err same same_epoch cut = cc
shown_in_part {E} o n q q' epoch epoch' (Err x) err same same_epoch cut = rw same at (rw same_epoch at cut)

-- all of it was shown, and the writer failed after it
pub shown_whole : (o m n : Option (List ℕ)) (q q' : Condensed) (epoch epoch' : ℕ) → q' ≡ q → epoch' ≡ epoch → Appends o m (plant_text q' epoch') → Keeps m n
    → IsCutShort o n (plant_text q epoch)
shown_whole o m n q q' epoch epoch' same same_epoch shown kept =
    record { front = plant_text q epoch; rest = []; whole = sym (append-nil (plant_text q epoch)); written = Appends-kept o m n (plant_text q epoch) (rw same at (rw same_epoch at shown)) kept }
