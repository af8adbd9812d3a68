-- One more console after others.
use Rattle.std.proofs.Common.{List, [], ◌∷◌, ◌++◌}
use Rattle.alm_rings.specs.declared.told.Told.{Ghosts}
use Rattle.alm_rings.specs.declared.console.Console.{Console}
use Rattle.alm_rings.specs.Ends.{SameConsole}
use Rattle.alm_threads.specs.Same.{AllSame}

module _ {T : Type 0} {g : Ghosts T} where
  pub all_same_snoc : (cs ds : List (Console T g)) (c d : Console T g) → AllSame cs ds → SameConsole c d → AllSame (cs ++ c ∷ []) (ds ++ d ∷ [])
  all_same_snoc [] [] c d all same = (same, tt)
  all_same_snoc [] (y ∷ ds) c d all same = absurd all
  all_same_snoc (x ∷ cs) [] c d all same = absurd all
  all_same_snoc (x ∷ cs) (y ∷ ds) c d all same = (all.0, all_same_snoc cs ds c d all.1 same)
