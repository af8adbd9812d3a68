-- For the proofs.
-- The sizes of chains: this number of families of this number of lists over this number of nodes.
use Rattle.std.specs.Prelude.{ℕ, ◌≡◌, ◌<◌, length}
use Rattle.alm_links.specs.Lists.{Families, family_at}

pub record HasSizes (count nodes lists : ℕ) (c : Families) : Type 0 where
  pub all_families : length c.families ≡ count
  pub all_nodes : c.nodes ≡ nodes
  pub all_lists : (f : ℕ) → f < count → length (family_at c.families f) ≡ lists
