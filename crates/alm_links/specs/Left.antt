-- For the proofs.
-- What is left of a list.
use Rattle.std.specs.Prelude.{ℕ, ◌<◌, ◌^◌, List, length}
use Rattle.std.specs.List.{AllByRecursion}
use Rattle.alm_links.specs.Links.{walk}
use Rattle.alm_links.specs.declared.list_nodes.ListNodes.TheInside.{Inside}

abbrev pub nodes_left : Inside → List ℕ
nodes_left n = walk n.links.now n.left n.at

-- the walk stays within the links
pub record IsWithin (n : Inside) : Type 0 where
  pub here : n.at < length n.links.now
  pub small : AllByRecursion (λ x. x < length n.links.now) (nodes_left n)
  pub fits : AllByRecursion (λ x. x < 2 ^ 32) (nodes_left n)
