-- What a console asks is done.
use Rattle.std.proofs.Common.{◌≡◌, ◌<◌, Bool, true, false, not, ◌&&◌, Ok, refl, sym, ◌∙◌, true≢false}
use Rattle.alm_types.specs.declared.attr.Attr.{Attr}
use Rattle.alm_types.specs.declared.action.Action.{Action}
use Rattle.alm_types.specs.declared.action.Action.TheVariants.{Ack, Reset}
use Rattle.alm_types.specs.declared.request.Request.{Request}
use Rattle.alm_types.specs.declared.want.Want.{Want}
use Rattle.alm_types.specs.declared.want.Want.TheVariants.{Do, AckSeen}
use Rattle.alm_types.specs.Wants.{action_of, wanted_action}
use Rattle.alm_types.specs.declared.role.Role.TheVariants as role
use Rattle.alm_types.specs.Actions.{alarm_of}
use Rattle.alm_types.specs.Sizes.{most_actions}
use Rattle.alm_types.specs.Slots.{role_of}
use Rattle.alm_state.specs.Rows.{State}
use Rattle.alm_model.specs.Plant.{Condensed, Panel}
use Rattle.alm_model.specs.Accept.{accept}
use Rattle.alm_laws.specs.Alarm.{acknowledges, resets, is_unacknowledged, is_latched}
use Rattle.alm_laws.specs.Plant.{IsAlarmOf, asker_of}
use Rattle.alm_laws.specs.Taken.{IsPossible, NamesStanding}
use Rattle.alm_laws.proofs.Taken.{acceptable-so}

module _ (q : Condensed) (a : Attr) (s : State) where
  ack-possible : (action : Action) → IsAlarmOf q (alarm_of action) a s → acknowledges action ≡ true → is_unacknowledged s.core ≡ true → (asker_of action ≡ role.Console) × IsPossible q.panel action
  ack-possible (Ack i) h is waits = (refl, (a, s, h.attr, h.row, waits))
  ack-possible action h is waits = absurd (true≢false (sym is))

  both : (b c : Bool) → b ≡ true → c ≡ false → (b && not c) ≡ true
  both true false e f = refl
  both true true e f = absurd (true≢false f)
  both false c e f = absurd (true≢false (sym e))

  reset-possible : (action : Action) → IsAlarmOf q (alarm_of action) a s → resets action ≡ true → is_latched s.core ≡ true → is_unacknowledged s.core ≡ false → (asker_of action ≡ role.Console) × IsPossible q.panel action
  reset-possible (Reset i) h is latched known = (refl, (a, s, h.attr, h.row, both (is_latched s.core) (is_unacknowledged s.core) latched known))
  reset-possible action h is latched known = absurd (true≢false (sym is))

-- a reset names no annunciation
resets-none : (p : Panel) (w : Want) → resets (action_of w) ≡ true → NamesStanding p w
resets-none p (Do action) is = tt
resets-none p (AckSeen i stamp) is = absurd (true≢false (sym is))

pub acknowledge-heard : (q : Condensed) (r : Request) (a : Attr) (s : State) → IsAlarmOf q (alarm_of (wanted_action r)) a s → q.panel.count < most_actions → role_of r.slot ≡ role.Console → acknowledges (wanted_action r) ≡ true
    → is_unacknowledged s.core ≡ true → NamesStanding q.panel r.want → accept q.panel r ≡ Ok (wanted_action r)
acknowledge-heard q r a s h few console is waits stands =
    let p = ack-possible q a s (wanted_action r) h is waits in
    acceptable-so q r h.rules (record { asker = console ∙ sym p.0; possible = p.1; number = few; standing = stands })

pub reset-heard : (q : Condensed) (r : Request) (a : Attr) (s : State) → IsAlarmOf q (alarm_of (wanted_action r)) a s → q.panel.count < most_actions → role_of r.slot ≡ role.Console → resets (wanted_action r) ≡ true
    → is_latched s.core ≡ true → is_unacknowledged s.core ≡ false → accept q.panel r ≡ Ok (wanted_action r)
reset-heard q r a s h few console is latched known =
    let p = reset-possible q a s (wanted_action r) h is latched known in
    acceptable-so q r h.rules (record { asker = console ∙ sym p.0; possible = p.1; number = few; standing = resets-none q.panel r.want is })
