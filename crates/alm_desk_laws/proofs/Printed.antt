-- What a desk prints of its plant.
use Rattle.std.proofs.Common.{◌≡◌, ℕ, ◌+◌, ◌<◌, ◌≤◌, List, ◌∷◌, Some, Ok, length, take, refl, sym, ap, ◌∙◌, subst}
use Rattle.std.specs.Prelude.{◌↔◌, AllPairs, Contains, slice_get}
use Rattle.alm_types.specs.declared.want.Want.{Want}
use Rattle.alm_types.specs.Wants.{action_of}
use Rattle.alm_types.specs.declared.alarm_id.AlarmId.{AlarmId}
use Rattle.alm_types.specs.declared.attr.Attr.{Attr}
use Rattle.alm_types.specs.declared.query.Query.{Query}
use Rattle.alm_types.specs.declared.query.Query.TheVariants as query
use Rattle.alm_types.specs.declared.refusal.Refusal.{Refusal}
use Rattle.alm_types.specs.declared.shown.Shown.{Shown}
use Rattle.alm_types.specs.Reports.{Report, alarm, alarms, row}
use Rattle.alm_types.specs.Tables.{Listing}
use Rattle.alm_state.specs.Rows.{State}
use Rattle.alm_model.specs.Plant.{Condensed}
use Rattle.alm_model.specs.Look.{look}
use Rattle.alm_model.specs.New.{new_plant}
use Rattle.alm_model.specs.Rising.{RisesByStamp}
use Rattle.alm_model.specs.Rules.{KeepsRules}
use Rattle.alm_model.specs.declared.list.List.TheVariants.{Priority, Area, Wheel}
use Rattle.alm_model.proofs.Kept.{new-keeps, run-keeps}
use Rattle.alm_lines.specs.Reply.{no_text, ok_text, told_text}
use Rattle.alm_lines.specs.declared.ask.Ask.TheVariants.{Act, Look}
use Rattle.alm_desk.specs.Answers.{DeskState, AnsweredLine, after_lines, request, reply_on, report_reply, judged_reply}
use Rattle.alm_desk.specs.Backends.{judged_by}
use Rattle.alm_desk.specs.declared.hindrance.Hindrance.TheVariants.{Nothing}
use Rattle.alm_laws.specs.Listed.{HasJustThose, IsStaleAlarm, IsChatteringAlarm}
use Rattle.alm_laws.specs.Refused.{reasons}
use Rattle.alm_laws.specs.Refused.{by_first_reason}
use Rattle.alm_laws.specs.Shown.{IsShownAsItIs, flags_shown}
use Rattle.alm_laws.specs.Taken.{IsAcceptable}
use Rattle.alm_laws.proofs.Shown.{one-shown, state-told}
use Rattle.alm_laws.proofs.Listing.{one-list, priority-told, area-told, slot-told}
use Rattle.alm_laws.proofs.Numbered.{one-stale, one-chattering}
use Rattle.alm_laws.proofs.Refused.{first-reason}
use Rattle.alm_laws.proofs.Queries.{row-reported}
use Rattle.alm_laws.proofs.Taken.{acceptable-so}
use Rattle.alm_desk_laws.specs.Done.{HasAnswered, done, reply_to_action, reply_to_query}
use Rattle.alm_desk_laws.proofs.Done.{plant-done, count-done}

module _ (t : Listing) (s : DeskState) (lines : List AnsweredLine) (q : Condensed) (h : HasAnswered t s lines q) where
  rules : KeepsRules q
  rules = let is = plant-done t s lines q h in subst KeepsRules (sym is.0) (run-keeps (new_plant t) (done s lines) (new-keeps t h.table) is.1)

  -- a query is answered by what the plant reports
  told : (slot id : ℕ) (asked : Query) (r : Report) → look q asked ≡ Ok r → reply_to_query s lines slot id asked ≡ told_text id (length (done s lines)) asked r
  told slot id asked r e =
      ap (λ o. reply_on o (after_lines s lines).recent (record { slot = slot; line = record { id = id; ask = Look asked } }) Nothing) h.stands
      ∙ ap (report_reply id q.panel.count asked) e
      ∙ ap (λ n. told_text id n asked r) (count-done t s lines q h)

  pub ok-printed : (slot id : ℕ) (want : Want) → IsAcceptable q.panel (request slot want) → reply_to_action s lines slot id want ≡ ok_text id (length (done s lines) + 1)
  ok-printed slot id want may =
      ap (λ o. reply_on o (after_lines s lines).recent (record { slot = slot; line = record { id = id; ask = Act want } }) Nothing) h.stands
      ∙ ap (λ o. judged_reply id (judged_by q.panel.count o)) (acceptable-so q (request slot want) rules may)
      ∙ ap (λ n. ok_text id (n + 1)) (count-done t s lines q h)

  pub state-printed : (slot id : ℕ) (i : AlarmId) (r : State) (x : Shown) → slice_get q.panel.rows i.0 ≡ Some r → IsShownAsItIs r x
      → reply_to_query s lines slot id (query.State i) ≡ told_text id (length (done s lines)) (query.State i) (alarm x r.active (flags_shown r) r.shelved_until)
  state-printed slot id i r x e is =
      told slot id (query.State i) _ (subst (λ y. look q (query.State i) ≡ Ok (alarm y r.active (flags_shown r) r.shelved_until)) (sym ((one-shown r x).0 is)) (state-told q i r e))

  pub row-printed : (slot id : ℕ) (i : AlarmId) (r : State) (a : Attr) (x : Shown) (moments : List ℕ) → slice_get q.panel.rows i.0 ≡ Some r → slice_get q.panel.attrs i.0 ≡ Some a
      → slice_get q.kept.moments i.0 ≡ Some moments → IsShownAsItIs r x
      → reply_to_query s lines slot id (query.Row i) ≡ told_text id (length (done s lines)) (query.Row i)
      (row (Some record { shown = x; active = r.active; flags = flags_shown r; until = r.shelved_until; stamp = r.stamp; priority = a.priority; setpoint = a.setpoint; moments = take 3 moments }))
  row-printed slot id i r a x moments e f g is =
      told slot id (query.Row i) _
      (subst (λ y. look q (query.Row i) ≡ Ok (row (Some record { shown = y; active = r.active; flags = flags_shown r; until = r.shelved_until; stamp = r.stamp; priority = a.priority; setpoint = a.setpoint; moments = take 3 moments })))
      (sym ((one-shown r x).0 is)) (row-reported q i r a moments e f g))

  pub priority-printed : (slot id n : ℕ) (out : List ℕ) → 1 ≤ n → n ≤ 4 → RisesByStamp q.panel out → HasJustThose q (Priority n) out
      → reply_to_query s lines slot id (query.Priority n) ≡ told_text id (length (done s lines)) (query.Priority n) (alarms out)
  priority-printed slot id n out low high rises those =
      told slot id (query.Priority n) _ (subst (λ xs. look q (query.Priority n) ≡ Ok (alarms xs)) (sym ((one-list q (Priority n) out rules refl).0 (rises, those))) (priority-told q n low high))

  pub area-printed : (slot id n : ℕ) (out : List ℕ) → n < length q.floods → RisesByStamp q.panel out → HasJustThose q (Area n) out
      → reply_to_query s lines slot id (query.Area n) ≡ told_text id (length (done s lines)) (query.Area n) (alarms out)
  area-printed slot id n out there rises those =
      told slot id (query.Area n) _ (subst (λ xs. look q (query.Area n) ≡ Ok (alarms xs)) (sym ((one-list q (Area n) out rules refl).0 (rises, those))) (area-told q n there))

  pub slot-printed : (slot id n : ℕ) (out : List ℕ) → n < 256 → RisesByStamp q.panel out → HasJustThose q (Wheel n) out
      → reply_to_query s lines slot id (query.Wheel n) ≡ told_text id (length (done s lines)) (query.Wheel n) (alarms out)
  slot-printed slot id n out low rises those =
      told slot id (query.Wheel n) _ (subst (λ xs. look q (query.Wheel n) ≡ Ok (alarms xs)) (sym ((one-list q (Wheel n) out rules refl).0 (rises, those))) (slot-told q n low))

  pub stale-printed : (slot id : ℕ) (out : List ℕ) → AllPairs (λ i j. i < j) out → ((i : ℕ) → Contains out i ↔ IsStaleAlarm q i)
      → reply_to_query s lines slot id query.Stale ≡ told_text id (length (done s lines)) query.Stale (alarms out)
  stale-printed slot id out rises those = told slot id query.Stale _ (subst (λ xs. look q query.Stale ≡ Ok (alarms xs)) (sym ((one-stale q out rules).0 (rises, those))) refl)

  pub chatter-printed : (slot id : ℕ) (out : List ℕ) → AllPairs (λ i j. i < j) out → ((i : ℕ) → Contains out i ↔ IsChatteringAlarm q i)
      → reply_to_query s lines slot id query.Chatter ≡ told_text id (length (done s lines)) query.Chatter (alarms out)
  chatter-printed slot id out rises those = told slot id query.Chatter _ (subst (λ xs. look q query.Chatter ≡ Ok (alarms xs)) (sym ((one-chattering q out rules).0 (rises, those))) refl)

  pub no-printed : (slot id : ℕ) (want : Want) (first : Refusal) (others : List Refusal) → reasons q.panel (request slot want) ≡ first ∷ others → reply_to_action s lines slot id want ≡ no_text id first
  no-printed slot id want first others e =
      ap (λ o. reply_on o (after_lines s lines).recent (record { slot = slot; line = record { id = id; ask = Act want } }) Nothing) h.stands
      ∙ ap (λ o. judged_reply id (judged_by q.panel.count o)) (first-reason q (request slot want) rules ∙ ap (by_first_reason (action_of want)) e)
