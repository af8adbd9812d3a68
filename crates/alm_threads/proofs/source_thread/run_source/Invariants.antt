use Rattle.std.proofs.Common.{◌≡◌, List}
use Rattle.alm_rings.specs.Ends.{SameConsole}
use Rattle.alm_threads.specs.Sources.{SourceState, TookTurns, source_state}
use Rattle.alm_threads.proofs.source_thread.run_source.Given as goal

abbrev pub invariant-loop : goal.invariant-loop
invariant-loop g l = record {
  same : SameConsole l.fn.console l.console;
  slot : g.S.Source.slot l.source ≡ g.S.Source.slot l.fn.source;
  turns : (before : List (SourceState _ _)) × TookTurns g.S.Source.did (source_state l.fn.source l.fn.look l.fn.console) before (source_state l.source l.look l.console);
}
