use Rattle.std.specs.Prelude.{◌≡◌, ◌<◌, ℕ, false, slice_get, Some}
use Rattle.alm_rings.specs.declared.console.Console.{Console}
use Rattle.alm_seq.specs.Sequences.{SameInboxes, live_base}
use Rattle.alm_threads.specs.Finished.{IsTaken}
use Rattle.alm_threads.specs.Same.{AllIdle, AllSame}
use Rattle.alm_threads.proofs.finishing.take_each.Given as goal

-- the slots so far
abbrev pub invariant-loop-console : goal.invariant-loop-console
invariant-loop-console g l = record {
  consoles : AllSame l.fn.consoles l.consoles;
  idle : AllIdle l.fn.consoles l.consoles;
  inboxes : SameInboxes l.fn.sequencer.inboxes.items l.sequencer.inboxes.items;
  ends : l.sequencer.ends ≡ l.fn.sequencer.ends;
  base : live_base l.sequencer ≡ live_base l.fn.sequencer;
  none : l.found ≡ false → (k : ℕ) (c : Console _ _) → k < l.console-index → slice_get l.consoles k ≡ Some c → IsTaken c l.sequencer.inboxes.items;
}
