-- Few annunciations.
use Rattle.std.proofs.Common.{◌≡◌, ℕ, ◌≤◌, List, All, length, replicate, sum, sum_by, arith}
use Rattle.std.proofs.lemmas.List.{get_or-replicate, length-replicate}
use Rattle.std.proofs.lemmas.List.Sums.{sum_by-le}

pub all-none : (n : ℕ) → All (λ count. count ≤ 1000) (replicate n 0)
all-none n k d h = let e = get_or-replicate n k 0 d (rw length-replicate at h) in omega arith

pub few-ages : (counts : List ℕ) → All (λ count. count ≤ 1000) counts → length counts ≡ 600 → sum counts ≤ 600000
few-ages counts small seconds = let all = sum_by-le (λ x. x) 1000 counts small in omega arith

pub few-areas : (areas : List (List ℕ)) → All (λ ages. sum ages ≤ 600000) areas → length areas ≤ 64 → sum_by sum areas ≤ 38400000
few-areas areas small few = let all = sum_by-le sum 600000 areas small in omega arith
