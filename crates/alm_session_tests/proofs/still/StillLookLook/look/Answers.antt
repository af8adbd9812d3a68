use Rattle.std.proofs.Common.{◌≡◌, ℕ, List, [], Option, Some, None, Bool, true, false, refl}
use Rattle.std.specs.Prelude.{Err, Ok, slice_get, if◌then◌else◌}
use Rattle.alm_types.specs.declared.answer.Answer.{Answer}
use Rattle.alm_types.specs.declared.attr.Attr.{Attr}
use Rattle.alm_types.specs.declared.query.Query.{Query}
use Rattle.alm_types.specs.declared.query.Query.TheVariants.{State, Priority, Area, Wheel, Flood, Stale, Chatter, Plant, Attributes, Row}
use Rattle.alm_types.specs.declared.refusal.Refusal.{Refusal}
use Rattle.alm_types.specs.declared.refusal.Refusal.TheVariants.{NoSuchList, OutOfMemory, Stopped}
use Rattle.alm_types.specs.Reports.{alarms}
use Rattle.alm_state.specs.Rows.{State as RowState}
use Rattle.alm_model.specs.Plant.{Condensed}
use Rattle.alm_model.specs.Look.{IsLook, look, state_report, flood_report, attributes_report, row_report}
use Rattle.alm_model.specs.Lists.{exists, list_of, moments_in}
use Rattle.alm_model.specs.declared.list.List.{List as Choice}
use Rattle.alm_model.specs.declared.list.List.TheVariants as choice
use Rattle.alm_board.specs.Looks.{LookAnswers}
use Rattle.alm_board.proofs.PrefixOfLaws.{prefix_of_self}
use Rattle.alm_session_tests.proofs.still.StillLookLook.look.Goals as goal

state_shows : (o : Option RowState) → state_report o ≡ Err Stopped → ⊥
state_shows None h = absurd (cc h)
state_shows (Some s) h = absurd (cc h)

flood_shows : (ages : Option (List ℕ)) (on : Option Bool) → flood_report ages on ≡ Err Stopped → ⊥
flood_shows None on h = absurd (cc h)
flood_shows (Some ages) None h = absurd (cc h)
flood_shows (Some ages) (Some on) h = absurd (cc h)

attributes_show : (o : Option Attr) → attributes_report o ≡ Err Stopped → ⊥
attributes_show None h = absurd (cc h)
attributes_show (Some a) h = absurd (cc h)

row_shows : (state : Option RowState) (attr : Option Attr) (moments : List ℕ) → row_report state attr moments ≡ Err Stopped → ⊥
row_shows None attr moments h = absurd (cc h)
row_shows (Some s) None moments h = absurd (cc h)
row_shows (Some s) (Some a) moments h = absurd (cc h)

list_shows : (list : Choice) (q : Condensed) (b : Bool) → (if b then Ok (alarms (list_of list q)) else Err NoSuchList) ≡ Err Stopped → ⊥
list_shows list q true h = absurd (cc h)
list_shows list q false h = absurd (cc h)

-- a plant doesn't say that it has stopped
never_stopped : (q : Condensed) (query : Query) → look q query ≡ Err Stopped → ⊥
never_stopped q (State i) h = state_shows (slice_get q.panel.rows i.0) h
never_stopped q (Flood a) h = flood_shows (slice_get q.kept.ages a) (slice_get q.floods a) h
never_stopped q (Priority n) h = list_shows (choice.Priority n) q (exists (choice.Priority n) q) h
never_stopped q (Area n) h = list_shows (choice.Area n) q (exists (choice.Area n) q) h
never_stopped q (Wheel n) h = list_shows (choice.Wheel n) q (exists (choice.Wheel n) q) h
never_stopped q Stale h = list_shows choice.Stale q true h
never_stopped q Chatter h = list_shows choice.Chatter q true h
never_stopped q Plant h = absurd (cc h)
never_stopped q (Attributes i) h = attributes_show (slice_get q.panel.attrs i.0) h
never_stopped q (Row i) h = row_shows (slice_get q.panel.rows i.0) (slice_get q.panel.attrs i.0) (moments_in (slice_get q.kept.moments i.0)) h

still_refuses : (q : Condensed) (query : Query) (before after : Answer) (refusal : Refusal) → IsLook q query before after (Err refusal) → LookAnswers q [] [] query before after (Err refusal)
still_refuses q query before after Stopped h = absurd (never_stopped q query h.0)
still_refuses q query before after OutOfMemory h = (refl, ([], (prefix_of_self [], h)))
still_refuses q query before after refusal h = (refl, ([], (prefix_of_self [], h)))

pub returns-in-Err-clause-answer : goal.returns-in-Err-clause-answer
returns-in-Err-clause-answer g c = still_refuses (g.P.Alarms.plant c.args.self.now.plant) c.args.query c.args.answer.now c.look.new.answer c.in-Err.refusal c.in-Err.ensures
