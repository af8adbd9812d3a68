-- Which plants the images of a stack's device encode.
use Rattle.std.proofs.Common.{◌≡◌, ◌⊎◌, ⊎_elim, ◌∙◌, ℕ, List, [], ◌∷◌, Option, Some, None, refl, sym, ap, subst, arith}
use Rattle.std.specs.List.{Contains}
use mathlib.Core.Logic.{∥∥₁_elim, ∥∥₁_prop}
use Rattle.alm_types.specs.declared.request.Request.{Request}
use Rattle.alm_model.specs.Accept.{accept}
use Rattle.alm_model.specs.Plant.{Condensed}
use Rattle.alm_model.specs.Step.{run}
use Rattle.alm_model.specs.Judging.{accepted_of, verdict_of, when_accepted}
use Rattle.alm_flush.specs.declared.held.Held.{Held}
use Rattle.alm_flush.specs.HeldBatch.{waiting_of}
use Rattle.alm_desk.specs.Backends.{if_accepted}
use Rattle.alm_stack.specs.Exchanges.{MayWait}
use Rattle.alm_stack.specs.Stacks.{kept_at}
use Rattle.alm_stack.proofs.Verdicts.{after_is, run_one}

module _ (R : List ℕ → Condensed → Type 0) where
  only : (p : Condensed) (b : List ℕ) → R b p → ∥ ((plant : Condensed) × Contains (p ∷ []) plant × R b plant) ∥₁
  only p b s = ∣ (p, (0, omega arith, refl), s) ∣₁

  first : (p q : Condensed) (b : List ℕ) → R b p → ∥ ((plant : Condensed) × Contains (p ∷ q ∷ []) plant × R b plant) ∥₁
  first p q b s = ∣ (p, (0, omega arith, refl), s) ∣₁

  second : (p q : Condensed) (b : List ℕ) → R b q → ∥ ((plant : Condensed) × Contains (p ∷ q ∷ []) plant × R b plant) ∥₁
  second p q b s = ∣ (q, (1, omega arith, refl), s) ∣₁

  pub kept_image : (halted : Option Request) (live stored next : Condensed) (held : Held) (b : List ℕ)
      → (halted ≡ None → (live ≡ stored) × (accepted_of (waiting_of held) ≡ []))
      → ((r : Request) → halted ≡ Some r → ∥ MayWait held (verdict_of stored r) ∥₁)
      → ∥ (next ≡ stored) ⊎ (next ≡ run stored (accepted_of (waiting_of held))) ∥₁
      → ∥ R b stored ⊎ R b next ∥₁
      → ∥ ((plant : Condensed) × Contains (kept_at halted live stored) plant × R b plant) ∥₁
  kept_image None live stored next held b rests halts either stands =
      let r = rests refl in
      ∥∥₁_elim either ∥∥₁_prop (λ e. ∥∥₁_elim stands ∥∥₁_prop (λ s.
      let same : next ≡ stored = ⊎_elim (λ x. x) (λ x. x ∙ ap (run stored) r.1) e in
      let here : R b stored = ⊎_elim (λ x. x) (λ x. subst (R b) same x) s in
      only live b (subst (R b) (sym r.0) here)))
  kept_image (Some request) live stored next held b rests halts either stands =
      let after = if_accepted stored (accept stored.panel request) in
      ∥∥₁_elim (halts request refl) ∥∥₁_prop (λ h. ∥∥₁_elim either ∥∥₁_prop (λ e. ∥∥₁_elim stands ∥∥₁_prop (λ s.
      ⊎_elim (λ x. first stored after b x) (λ x.
      ⊎_elim (λ (y : next ≡ stored). first stored after b (subst (R b) y x))
      (λ (y : next ≡ run stored (accepted_of (waiting_of held))).
      ⊎_elim (λ (z : accepted_of (waiting_of held) ≡ []). first stored after b (subst (R b) (y ∙ ap (run stored) z) x))
      (λ (z : accepted_of (waiting_of held) ≡ when_accepted (verdict_of stored request)).
      second stored after b (subst (R b) (y ∙ (ap (run stored) z ∙ (run_one stored (verdict_of stored request) ∙ after_is stored request))) x)) h) e) s)))
