-- The condition that an action leaves, whether it is taken or not.
use Rattle.std.proofs.Common.{◌≡◌, ℕ, ℤ, Bool, true, false, cond, Option, Some, None, unwrap_or, refl, sym, ap, ◌∙◌, inl, inr, true≢false}
use Rattle.alm_types.specs.declared.attr.Attr.{Attr}
use Rattle.alm_types.specs.declared.action.Action.{Action}
use Rattle.alm_types.specs.declared.action.Action.TheVariants.{Value}
use Rattle.alm_state.specs.Rows.{State, is_suppressed}
use Rattle.alm_state.specs.Table.{next_core}
use Rattle.alm_state.specs.Detection.{detection_of}
use Rattle.alm_state.specs.Outcome.{outcome, after_condition, after_transition}
use Rattle.alm_state.specs.declared.core_state.Core.{Core}
use Rattle.alm_state.specs.declared.core_state.Core.TheVariants.{Normal, Unack, Acked, RtnUnack, LatchUnack, LatchAcked}
use Rattle.alm_state.specs.declared.happening.Happening.TheVariants as happening
use Rattle.alm_state.specs.declared.outcome.Outcome.TheVariants.{Changed}
use Rattle.alm_laws.specs.Alarm.{row_left}
use Rattle.alm_laws.specs.Left.{is_beyond, is_back, condition_left}
use Rattle.alm_laws.proofs.Asking.{either-active}
use Rattle.alm_laws.proofs.Left.{comes-is, goes-is, back-isnt}

led-active : (stamp : ℕ) (o : Option Core) (t : State) → (row_left (after_transition stamp o t)).active ≡ t.active
led-active stamp None t = refl
led-active stamp (Some Normal) t = refl
led-active stamp (Some Unack) t = refl
led-active stamp (Some Acked) t = refl
led-active stamp (Some RtnUnack) t = refl
led-active stamp (Some LatchUnack) t = refl
led-active stamp (Some LatchAcked) t = refl

followed : (stamp : ℕ) (a : Attr) (s : State) (o : Option Bool) → (row_left (after_condition stamp a s o)).active ≡ unwrap_or o s.active
followed stamp a s None = refl
followed stamp a s (Some y) =
    elim (is_suppressed s) as (λ b. (row_left (cond b (Changed (record s { active = y })) (after_transition stamp (next_core a.latching (cond y happening.Comes happening.Goes) s.core) (record s { active = y })))).active ≡ y) [
      | true ↦ refl
      | false ↦ led-active stamp (next_core a.latching (cond y happening.Comes happening.Goes) s.core) (record s { active = y })
    ]

came : (b g : Bool) → (g ≡ true → b ≡ false) → unwrap_or (cond b (Some true) None) false ≡ cond b true (cond g false false)
came true g f = refl
came false true f = refl
came false false f = refl

went : (b g : Bool) → (g ≡ true → b ≡ false) → unwrap_or (cond g (Some false) None) true ≡ cond b true (cond g false true)
went true true f = absurd (true≢false (f refl))
went true false f = refl
went false true f = refl
went false false f = refl

by-value : (a : Attr) (before : Bool) (v : ℤ)
    → unwrap_or (detection_of a before v) before ≡ cond (is_beyond a.kind a.setpoint v) true (cond (is_back a.kind a.setpoint a.deadband v) false before)
by-value a false v = ap (λ b. unwrap_or (cond b (Some true) None) false) (comes-is a.kind a.setpoint v) ∙ came (is_beyond a.kind a.setpoint v) (is_back a.kind a.setpoint a.deadband v) (back-isnt a.kind a.setpoint a.deadband v)
by-value a true v = ap (λ b. unwrap_or (cond b (Some false) None) true) (goes-is a.kind a.setpoint a.deadband v) ∙ went (is_beyond a.kind a.setpoint v) (is_back a.kind a.setpoint a.deadband v) (back-isnt a.kind a.setpoint a.deadband v)

pub condition-follows : (now stamp : ℕ) (action : Action) (a : Attr) (s : State) → (row_left (outcome now stamp action a s)).active ≡ condition_left action a s.active
condition-follows now stamp (Value i v) a s = followed stamp a s (detection_of a s.active v) ∙ by-value a s.active v
condition-follows now stamp action a s = elim (either-active now stamp action a s) [ inl e ↦ absurd (true≢false (sym e)) | inr e ↦ e ]
