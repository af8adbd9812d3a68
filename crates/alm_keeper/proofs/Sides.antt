-- The other half among the bytes of a device.
use Rattle.std.proofs.Common.{◌≡◌, ℕ, ◌≤◌, List, [], ◌∷◌, ◌++◌, length, drop, refl, ap, arith, append_assoc, length-append}
use Rattle.alm_model.specs.Plant.{Condensed}
use Rattle.alm_checkpoint.specs.declared.half.Half.{Half}
use Rattle.alm_checkpoint.specs.declared.half.Half.TheVariants.{First, Second}
use Rattle.alm_checkpoint.specs.Layouts.{layout_byte, half_at, other}
use Rattle.alm_checkpoint.specs.Cut.{Cut, Stores, Reaches, front, side_front}
use Rattle.alm_checkpoint.proofs.Grown.{gate_at}

-- its start
pub side_long : (c : Cut) (plant : Condensed) (tail : List ℕ) → Stores c plant → Reaches c tail → (h : Half) → c.half ≡ h → length (side_front c h tail) ≡ half_at c.layout (other h)
side_long c plant tail s reaches First is = omega (arith, gate_at c plant tail s reaches, ap (half_at c.layout) is, length-append (front c) tail)
side_long c plant tail s reaches Second is = refl

pub by_gate : (o : List ℕ) → 1 ≤ length o → o ≡ layout_byte o 0 ∷ drop 1 o
by_gate [] long = absurd (omega arith)
by_gate (g ∷ o) long = refl

pub regroup : (f m l b : List ℕ) (g : ℕ) → f ++ (g ∷ m) ++ (l ++ b) ≡ f ++ (g ∷ (m ++ l)) ++ b
regroup f m l b g = simp append_assoc

-- a new half's text before what is left there
pub regroup_half : (g z : ℕ) (f h i s l b : List ℕ) → f ++ (g ∷ (((h ++ i) ++ s) ++ z ∷ [])) ++ (l ++ b) ≡ f ++ ((((g ∷ h) ++ i) ++ s) ++ (z ∷ l)) ++ b
regroup_half g z f h i s l b = simp append_assoc
