use Rattle.std.proofs.Common.{◌++◌, ◌∷◌, [], List, ℕ, ap, ◌∙◌}
use Rattle.alm_types.specs.declared.attr.Attr.{Attr}
use Rattle.alm_state.specs.Rows.{State}
use Rattle.alm_codec.specs.declared.fixed.Fixed.{Fixed}
use Rattle.alm_codec.specs.ImageFields.{Alarm, alarms_in}
use Rattle.alm_codec.specs.Parts.{alarm_in}
use Rattle.alm_codec.proofs.Alarms.{alarms_in-push}
use Rattle.alm_codec.proofs.alarm_lists.AlarmLists.push.Goals as goal

pub returns-clause-alarms : goal.returns-clause-alarms
returns-clause-alarms c =
    let attrs : List Attr = c.args.self.now.attrs.items in
    let rows : List State = c.args.self.now.rows.items in
    let moments : List (List ℕ) = c.args.self.now.moments.items in
    let front : List Alarm = alarms_in attrs rows moments in
    rw (c.in_ok-push.ensures.items, c.in_ok-push-2.ensures.items, c.in_ok-push-3.ensures.items)
    (alarms_in-push attrs rows moments c.attr.result c.row.result c.recent.result c.requires.rows c.requires.moments
    ∙ ap (λ (f : Fixed). front ++ record { fixed = f; state = c.row.result; moments = c.recent.result } ∷ []) c.attr.ensures
    ∙ ap (λ (s : State). front ++ record { fixed = c.args.alarm.now.fixed; state = s; moments = c.recent.result } ∷ []) c.row.ensures
    ∙ ap (λ (ms : List ℕ). front ++ record { fixed = c.args.alarm.now.fixed; state = (alarm_in c.args.alarm.now).state; moments = ms } ∷ []) c.recent.ensures)
