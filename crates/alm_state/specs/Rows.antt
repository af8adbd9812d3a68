-- What changes of an alarm, and what every alarm keeps.
use Rattle.std.specs.Prelude.{◌≡◌, ℕ, Bool, true, false, ◌||◌, ◌↔◌, ◌<◌, Option, is_some, IsTrue}
use Rattle.alm_state.specs.declared.core_state.Core.{Core}
use Rattle.alm_state.specs.declared.core_state.Core.TheVariants.{Normal, Unack, Acked, RtnUnack, LatchUnack, LatchAcked}

-- what changes of an alarm
pub record State : Type 0 where
  pub active : Bool
  pub core : Core
  pub shelved_until : Option ℕ
  pub by_design : Bool
  pub out_of_service : Bool
  pub stamp : ℕ

-- some flag is set
abbrev pub is_suppressed : State → Bool
is_suppressed s = is_some s.shelved_until || s.by_design || s.out_of_service

-- it asks for the operator
abbrev pub is_annunciated : Core → Bool
is_annunciated Normal = false
is_annunciated Unack = true
is_annunciated Acked = true
is_annunciated RtnUnack = true
is_annunciated LatchUnack = true
is_annunciated LatchAcked = true

-- the core states in which the condition holds
abbrev pub is_active_core : Core → Bool
is_active_core Normal = false
is_active_core Unack = true
is_active_core Acked = true
is_active_core RtnUnack = false
is_active_core LatchUnack = false
is_active_core LatchAcked = false

-- a suppressed alarm is Normal; any other has its condition exactly in Unack and Acked; its stamp is above 0 exactly if it is
-- annunciated or shelved
pub record IsState (s : State) : Type 0 where
  pub suppressed : is_suppressed s ≡ true → s.core ≡ Normal
  pub active : is_suppressed s ≡ false → s.active ≡ is_active_core s.core
  pub stamped : IsTrue (is_annunciated s.core || is_some s.shelved_until) ↔ (0 < s.stamp)
