-- What a CLOCK does, and what a console sets.
use Rattle.std.specs.Prelude.{◌≡◌, ◌⊎◌, ◌<◌, ◌≤◌, ℕ, true, Some}
use Rattle.alm_types.specs.declared.attr.Attr.{Attr}
use Rattle.alm_types.specs.declared.action.Action.TheVariants.{Clock}
use Rattle.alm_types.specs.declared.request.Request.{Request}
use Rattle.alm_types.specs.Wants.{wanted_action}
use Rattle.alm_state.specs.Rows.{State, is_annunciated}

-- of two shelvings that one CLOCK ends, the one with the earlier deadline is annunciated first; at one deadline, the lower number
abbrev pub EndInOrder : Request → ℕ → State → State → ℕ → State → State → Type 0
EndInOrder r i s t j u v =
    (moment first second : ℕ) → (wanted_action r) ≡ Clock moment → s.shelved_until ≡ Some first → u.shelved_until ≡ Some second → second ≤ moment
    → (first < second) ⊎ ((first ≡ second) × (i < j)) → is_annunciated t.core ≡ true → is_annunciated v.core ≡ true → t.stamp < v.stamp

-- the same attributes, the priority aside
pub record SameButPriority (a b : Attr) : Type 0 where
  pub kind : b.kind ≡ a.kind
  pub setpoint : b.setpoint ≡ a.setpoint
  pub deadband : b.deadband ≡ a.deadband
  pub area : b.area ≡ a.area
  pub latching : b.latching ≡ a.latching
  pub max_shelve : b.max_shelve ≡ a.max_shelve
  pub tag : b.tag ≡ a.tag
  pub text : b.text ≡ a.text

-- the same, the setpoint aside
pub record SameButSetpoint (a b : Attr) : Type 0 where
  pub kind : b.kind ≡ a.kind
  pub deadband : b.deadband ≡ a.deadband
  pub priority : b.priority ≡ a.priority
  pub area : b.area ≡ a.area
  pub latching : b.latching ≡ a.latching
  pub max_shelve : b.max_shelve ≡ a.max_shelve
  pub tag : b.tag ≡ a.tag
  pub text : b.text ≡ a.text
