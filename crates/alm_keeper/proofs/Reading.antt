-- What is read of a device.
use Rattle.std.proofs.Common.{◌≡◌, ℕ, ◌<◌, List, length, take, drop, Err, refl, arith, length-drop}
use Rattle.std.proofs.lemmas.List.{length-take}
use Rattle.std.proofs.lemmas.Bool.{lt-leb}
use Rattle.alm_checkpoint.specs.declared.device_fault.DeviceFault.TheVariants.{Unformatted}
use Rattle.alm_checkpoint.specs.Opening.{layout_in, layout_from}

-- a device shorter than a header is not formatted
pub short_device : (b : List ℕ) → length b < 23 → layout_in b ≡ Err Unformatted
unfolding layout_from
short_device b short = rw (lt-leb 23 (length (take 23 (drop 0 b))) (short_part b short)) refl
  where
    short_part : (b : List ℕ) → length b < 23 → length (take 23 (drop 0 b)) < 23
    short_part b short = omega (arith, length-drop 0 b, length-take 23 (drop 0 b))
