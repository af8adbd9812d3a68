-- A gate that is written open is open, and one that is written closed isn't.
use Rattle.std.proofs.Common.{◌≡◌, true, false, refl}
use Rattle.alm_codec.specs.declared.version.Version.{Version}
use Rattle.alm_codec.specs.declared.version.Version.TheVariants.{V01, V02, V03}
use Rattle.alm_codec.specs.Versions.{is_open, closed_gate}
use Rattle.alm_checkpoint.specs.Layouts.{is_half_open}

pub written_open : (version : Version) → is_open version 165 ≡ true
written_open V01 = refl
written_open V02 = refl
written_open V03 = refl

pub closed_shut : (version : Version) → is_open version (closed_gate version) ≡ false
closed_shut V01 = refl
closed_shut V02 = refl
closed_shut V03 = refl

-- .. nor is the gate of a half
pub half_shut : (version : Version) → is_half_open (closed_gate version) ≡ false
half_shut V01 = refl
half_shut V02 = refl
half_shut V03 = refl
