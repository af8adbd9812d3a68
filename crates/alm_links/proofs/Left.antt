-- The first node that is left.
use Rattle.std.proofs.Common.{◌≡◌, ℕ, ◌-◌, ◌<◌, List, ◌∷◌, length, get_or, suc, zero, ap, arith, subst}
use Rattle.std.specs.List.{AllByRecursion}
use Rattle.std.proofs.lemmas.Option.{slice_get-get_or}
use Rattle.alm_links.specs.declared.links.Link.{Link}
use Rattle.alm_links.specs.Links.{walk, next_at, next_in}

pub walk-first : (links : List Link) (left at : ℕ) (d : Link) → 0 < left → at < length links → walk links left at ≡ (get_or links at d).next ∷ walk links (left - 1) (get_or links at d).next
walk-first links zero at d h k = absurd (omega arith)
walk-first links (suc n) at d h k =
    let read : next_at links at ≡ (get_or links at d).next = ap next_in (slice_get-get_or links at d k) in
    let one : suc n - 1 ≡ n = omega arith in
    rw one (ap (λ x. x ∷ walk links n x) read)

pub left-rest : (P : ℕ → Type 0) (links : List Link) (left at : ℕ) (d : Link) → 0 < left → at < length links → AllByRecursion P (walk links left at)
    → P (get_or links at d).next × AllByRecursion P (walk links (left - 1) (get_or links at d).next)
left-rest P links left at d h k a = subst (AllByRecursion P) (walk-first links left at d h k) a
