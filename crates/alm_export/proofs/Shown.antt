-- Lines of numbers from a first one on.
use Rattle.std.proofs.Common.{◌≡◌, ℕ, ◌+◌, ◌<◌, ◌≤◌, List, Option, take}
use Rattle.std.proofs.lemmas.List.{take_all}
use Rattle.std.proofs.lemmas.List.FromFn.{length-range_with_len, get_or-range_with_len}
use Rattle.std.specs.List.{flat_map, range_with_len}
use Rattle.std.specs.Io.KnownBytes.{Appends}
use Rattle.alm_lines.specs.Written.{IsCutShort}
use Rattle.alm_lines.proofs.Flattened.{wrote_more, cut_in_item}

-- the line of one number more was written
pub wrote_line : (f : ℕ → List ℕ) (first n i j : ℕ) (o m k : Option (List ℕ)) → i < n → first + i ≡ j
    → Appends o m (flat_map f (take i (range_with_len first n))) → Appends m k (f j) → Appends o k (flat_map f (take (i + 1) (range_with_len first n)))
wrote_line f first n i j o m k h e p q =
    wrote_more f (range_with_len first n) i 0 o m k (rw (length-range_with_len first n) h) p (rw (get_or-range_with_len first n i 0 h, e) q)

-- the line of a number was cut short
pub cut_in_line : (f : ℕ → List ℕ) (first n i j : ℕ) (o m k : Option (List ℕ)) → i < n → first + i ≡ j
    → Appends o m (flat_map f (take i (range_with_len first n))) → IsCutShort m k (f j) → IsCutShort o k (flat_map f (range_with_len first n))
cut_in_line f first n i j o m k h e p q =
    cut_in_item f (range_with_len first n) i 0 o m k (rw (length-range_with_len first n) h) p (rw (get_or-range_with_len first n i 0 h, e) q)

-- all lines were written
pub all_lines : (f : ℕ → List ℕ) (first n i : ℕ) (o m : Option (List ℕ)) → n ≤ i → Appends o m (flat_map f (take i (range_with_len first n))) → Appends o m (flat_map f (range_with_len first n))
all_lines f first n i o m h p = rw (take_all i (range_with_len first n) (rw (length-range_with_len first n) h)) at p
