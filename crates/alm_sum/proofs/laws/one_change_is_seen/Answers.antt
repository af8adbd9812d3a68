use Rattle.std.proofs.Common.{◌≡◌, ℕ, [], ◌∷◌, ◌++◌, sym, ◌∙◌, ap, append_assoc, arith}
use Rattle.std.proofs.lemmas.List.Elements.{All-from_recursion}
use Rattle.alm_sum.specs.Crc.{checksum_of}
use Rattle.alm_sum.proofs.Bytes.{IsByte}
use Rattle.alm_sum.proofs.Changes.{few_changes}
use Rattle.alm_sum.proofs.laws.one_change_is_seen.Goals as goal

head_is : (a b : ℕ) → a ∷ [] ≡ b ∷ [] → a ≡ b
head_is a b e = cc e

pub returns : goal.returns
returns c = λ front back a b in_front behind p q e.
    let one : (x : ℕ) → front ++ (x ∷ []) ++ back ≡ front ++ x ∷ back = λ x. append_assoc front (x ∷ []) back in
    head_is a b
    (few_changes front (a ∷ []) (b ∷ []) back in_front behind (All-from_recursion IsByte (a ∷ []) (p, tt)) (All-from_recursion IsByte (b ∷ []) (q, tt)) (omega arith) (omega arith)
    (ap checksum_of (one a) ∙ e ∙ ap checksum_of (sym (one b))))
