use Rattle.std.proofs.Common.{◌≡◌, ◌<◌, ◌≤◌, ℕ, true, false}
use Rattle.alm_disk.specs.Cells.{is_marked}
use Rattle.alm_disk.specs.Device.{byte_at}
use Rattle.alm_disk.proofs.cells.tear_in.Given as goal

abbrev pub invariant-loop-i : goal.invariant-loop-i
invariant-loop-i g l = record {
  stable : (place : ℕ) → is_marked l.pending place ≡ false → byte_at l.bytes place ≡ byte_at l.fn.bytes place;
  ahead : (place : ℕ) → l.i ≤ place → byte_at l.bytes place ≡ byte_at l.fn.bytes place;
  named : (place : ℕ) → place < l.i → is_marked l.pending place ≡ true → g.C.Chooser.names l.fn.chooser place (byte_at l.fn.bytes place) (byte_at l.bytes place);
  kept : (place before byte : ℕ) → g.C.Chooser.names l.chooser place before byte → g.C.Chooser.names l.fn.chooser place before byte;
}
