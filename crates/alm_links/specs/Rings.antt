-- For the proofs.
-- What holds of the links of a family.
use Rattle.std.specs.Prelude.{ℕ, ◌+◌, ◌≡◌, ◌<◌, ◌^◌, List, [], Some, length, slice_index_or}
use Rattle.std.specs.List.{AllByRecursion}
use Rattle.alm_links.specs.declared.links.Link.{Link}
use Rattle.alm_lists.specs.Lists.{times}
use Rattle.alm_links.specs.Lists.{once}
use Rattle.alm_links.specs.Links.{Joined, Path, list_at, walks}

-- the links form a list: round from its own link and back, each node of the list names it, and no other node does
pub record IsRing (nodes : ℕ) (links : List Link) (l : ℕ) (xs : List ℕ) : Type 0 where
  pub path : Path (Joined links) (nodes + l) xs (nodes + l)
  pub small : AllByRecursion (λ x. x < nodes) xs
  pub named : (x : ℕ) → x < nodes → times x xs ≡ once (list_at links x) l

-- the links form lists
pub record IsThreaded (nodes : ℕ) (links : List Link) (lists : List (List ℕ)) : Type 0 where
  pub places : length links ≡ nodes + length lists
  pub rings : (l : ℕ) → l < length lists → IsRing nodes links l (slice_index_or lists l [])
  pub names : (x l : ℕ) → x < nodes → list_at links x ≡ Some l → l < length lists

-- links and lengths of lists: the links form the lists
pub record IsFamily (nodes : ℕ) (links : List Link) (lengths : List ℕ) : Type 0 where
  pub threaded : IsThreaded nodes links (walks links nodes lengths)
  pub fits : nodes < 2 ^ 32
