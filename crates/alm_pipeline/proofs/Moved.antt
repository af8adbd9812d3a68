-- Equal worlds have the same bench.
use Rattle.std.proofs.Common.{◌≡◌, subst}
use Rattle.alm_disk.specs.declared.disk.Disk
use Rattle.alm_store.specs.declared.store.Store.{Ghosts}
use Rattle.alm_pipeline.specs.declared.pipeline.Pipeline.{Pipeline}
use Rattle.alm_pipeline.specs.World.{World}
use Rattle.alm_pipeline.specs.Matches.{MatchesOpenWorld}

module _ {K D : Type 0} {g : Ghosts K D} {d : Disk.Ghosts D} where
  pub opened_as : (w w' : World) (p : Pipeline K D g d) → w ≡ w' → MatchesOpenWorld w p → MatchesOpenWorld w' p
  opened_as w w' p e m = subst (λ v. MatchesOpenWorld v p) e m
