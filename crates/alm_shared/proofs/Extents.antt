-- What exists is reported, and what doesn't is refused whatever was published.
use Rattle.std.proofs.Common.{◌≡◌, ◌≢◌, ℕ, ◌<◌, inl, inr, Bool, true, false, List, length, Option, Some, None, refl, ap, sym, subst, arith}
use Rattle.std.specs.Prelude.{Ok, Err, IsOk, slice_get, if◌then◌else◌}
use Rattle.std.proofs.lemmas.Bool.{ltb-true, ltb-false, le-ltb}
use Rattle.std.proofs.lemmas.Option.{slice_get_past, slice_get_cases}
use Rattle.alm_types.specs.declared.action.Action.{Action}
use Rattle.alm_types.specs.declared.answer.Answer.{Answer}
use Rattle.alm_types.specs.declared.query.Query.{Query}
use Rattle.alm_types.specs.declared.query.Query.TheVariants.{State, Priority, Area, Wheel, Flood, Stale, Chatter, Plant, Attributes, Row}
use Rattle.alm_types.specs.declared.refusal.Refusal.{Refusal}
use Rattle.alm_types.specs.declared.refusal.Refusal.TheVariants.{NoSuchAlarm, NoSuchList, OutOfMemory, Stopped}
use Rattle.alm_types.specs.declared.attr.Attr.{Attr}
use Rattle.alm_types.specs.Reports.{alarms}
use Rattle.alm_state.specs.Rows.{State as RowState}
use Rattle.alm_model.specs.Plant.{Condensed}
use Rattle.alm_model.specs.Look.{IsLook, look, state_report, flood_report, list_report, attributes_report, row_report}
use Rattle.alm_model.specs.Lists.{exists, list_of, moments_in}
use Rattle.alm_model.specs.declared.list.List.{List as Choice}
use Rattle.alm_model.specs.declared.list.List.TheVariants as choice
use Rattle.alm_model.specs.Step.{run}
use Rattle.alm_model.proofs.Runs.{run_sizes, run_attrs}
use Rattle.alm_board.specs.PrefixesOf.{IsPrefixOf}
use Rattle.alm_board.specs.Looks.{LookAnswers}
use Rattle.alm_board.proofs.PrefixOfLaws.{prefix_of_self}
use Rattle.alm_shared.specs.Extents.{is_there, missing}

a_row : (rows : List RowState) (i : ℕ) → i < length rows → IsOk (state_report (slice_get rows i))
a_row rows i within = elim (slice_get_cases rows i).1 [
  | inl here ↦ subst (λ o. IsOk (state_report o)) (sym here.2) refl
  | inr past ↦ absurd (omega (arith, within, past.0))
]

some_attributes : (attrs : List Attr) (i : ℕ) → i < length attrs → IsOk (attributes_report (slice_get attrs i))
some_attributes attrs i within = elim (slice_get_cases attrs i).1 [
  | inl here ↦ subst (λ o. IsOk (attributes_report o)) (sym here.2) refl
  | inr past ↦ absurd (omega (arith, within, past.0))
]

whole_row : (state : Option RowState) (attr : Option Attr) (moments : List ℕ) (s : RowState) (a : Attr) → state ≡ Some s → attr ≡ Some a → IsOk (row_report state attr moments)
whole_row state attr moments s a here there = rw (here, there) refl

some_row : (rows : List RowState) (attrs : List Attr) (moments : List ℕ) (i : ℕ) → length attrs ≡ length rows → i < length rows
    → IsOk (row_report (slice_get rows i) (slice_get attrs i) moments)
some_row rows attrs moments i same within = elim (slice_get_cases rows i).1 [
  | inr past ↦ absurd (omega (arith, within, past.0))
  | inl here ↦ elim (slice_get_cases attrs i).1 [
    | inr past ↦ absurd (omega (arith, within, past.0, same))
    | inl there ↦ whole_row _ _ moments here.0 there.0 here.2 there.2
  ]
]

some_flood : (ages : Option (List ℕ)) (flood : Option Bool) (counts : List ℕ) (on : Bool) → ages ≡ Some counts → flood ≡ Some on → IsOk (flood_report ages flood)
some_flood ages flood counts on here there = rw (here, there) refl

a_flood : (ages : List (List ℕ)) (floods : List Bool) (area : ℕ) → length ages ≡ length floods → area < length floods → IsOk (flood_report (slice_get ages area) (slice_get floods area))
a_flood ages floods area same within = elim (slice_get_cases ages area).1 [
  | inr past ↦ absurd (omega (arith, within, past.0, same))
  | inl here ↦ elim (slice_get_cases floods area).1 [
    | inr past ↦ absurd (omega (arith, within, past.0))
    | inl there ↦ some_flood _ _ here.0 there.0 here.2 there.2
  ]
]

a_list : (list : Choice) (q : Condensed) → exists list q ≡ true → IsOk (list_report list q)
a_list list q is = subst (λ (b : Bool). IsOk (if b then Ok (alarms (list_of list q)) else Err NoSuchList)) (sym is) refl

no_list : (list : Choice) (q : Condensed) → exists list q ≡ false → list_report list q ≡ Err NoSuchList
no_list list q is = ap (λ (b : Bool). if b then Ok (alarms (list_of list q)) else Err NoSuchList) is

no_flood : (ages : Option (List ℕ)) (flood : Option Bool) → flood ≡ None → flood_report ages flood ≡ Err NoSuchList
no_flood None flood is = refl
no_flood (Some ages) None is = refl
no_flood (Some ages) (Some on) is = absurd (cc is)

pub tells : (q : Condensed) (query : Query) → length q.panel.attrs ≡ length q.panel.rows → length q.kept.ages ≡ length q.floods → is_there q query ≡ true → IsOk (look q query)
tells q (State i) named same is = a_row q.panel.rows i.0 (ltb-true _ _ is)
tells q (Flood area) named same is = a_flood q.kept.ages q.floods area same (ltb-true _ _ is)
tells q (Area area) named same is = a_list (choice.Area area) q is
tells q (Priority n) named same is = a_list (choice.Priority n) q is
tells q (Wheel slot) named same is = a_list (choice.Wheel slot) q is
tells q Stale named same is = refl
tells q Chatter named same is = refl
tells q Plant named same is = refl
tells q (Attributes i) named same is = some_attributes q.panel.attrs i.0 (omega (arith, named, ltb-true _ _ is))
tells q (Row i) named same is = some_row q.panel.rows q.panel.attrs (moments_in (slice_get q.kept.moments i.0)) i.0 named (ltb-true _ _ is)

pub refuses : (q : Condensed) (query : Query) → length q.panel.attrs ≡ length q.panel.rows → length q.kept.ages ≡ length q.floods → is_there q query ≡ false → (list : List Action) → look (run q list) query ≡ Err (missing query)
refuses q (State i) named same is list = ap state_report (slice_get_past (run q list).panel.rows i.0 (omega (arith, (run_sizes q list same).0, ltb-false _ _ is)))
refuses q (Flood area) named same is list = no_flood (slice_get (run q list).kept.ages area) (slice_get (run q list).floods area)
    (slice_get_past (run q list).floods area (omega (arith, (run_sizes q list same).1, ltb-false _ _ is)))
refuses q (Area area) named same is list = no_list (choice.Area area) (run q list) (le-ltb _ _ (omega (arith, (run_sizes q list same).1, ltb-false _ _ is)))
refuses q (Priority n) named same is list = no_list (choice.Priority n) (run q list) is
refuses q (Wheel slot) named same is list = no_list (choice.Wheel slot) (run q list) is
refuses q Stale named same is list = absurd (cc is)
refuses q Chatter named same is list = absurd (cc is)
refuses q Plant named same is list = absurd (cc is)
refuses q (Attributes i) named same is list =
    ap attributes_report (slice_get_past (run q list).panel.attrs i.0 (omega (arith, named, run_attrs q list same, ltb-false _ _ is)))
refuses q (Row i) named same is list =
    ap (λ o. row_report o (slice_get (run q list).panel.attrs i.0) (moments_in (slice_get (run q list).kept.moments i.0)))
    (slice_get_past (run q list).panel.rows i.0 (omega (arith, (run_sizes q list same).0, ltb-false _ _ is)))

-- what doesn't exist is refused by what is known
pub missing_answers : (base : Condensed) (known : List Action) (query : Query) (answer : Answer) → ((list : List Action) → look (run base list) query ≡ Err (missing query)) → LookAnswers base known known query answer answer (Err (missing query))
missing_answers base known (State i) answer none = (refl, (known, (prefix_of_self known, (none known, refl))))
missing_answers base known (Flood area) answer none = (refl, (known, (prefix_of_self known, (none known, refl))))
missing_answers base known (Area area) answer none = (refl, (known, (prefix_of_self known, (none known, refl))))
missing_answers base known (Priority n) answer none = (refl, (known, (prefix_of_self known, (none known, refl))))
missing_answers base known (Wheel slot) answer none = (refl, (known, (prefix_of_self known, (none known, refl))))
missing_answers base known Stale answer none = (refl, (known, (prefix_of_self known, (none known, refl))))
missing_answers base known Chatter answer none = (refl, (known, (prefix_of_self known, (none known, refl))))
missing_answers base known Plant answer none = (refl, (known, (prefix_of_self known, (none known, refl))))
missing_answers base known (Attributes i) answer none = (refl, (known, (prefix_of_self known, (none known, refl))))
missing_answers base known (Row i) answer none = (refl, (known, (prefix_of_self known, (none known, refl))))

-- a look that is refused reports no more than was known
pub refused_answers : (base : Condensed) (known list : List Action) (query : Query) (before after : Answer) (refusal : Refusal) → IsOk (look base query) → IsPrefixOf known list → IsLook (run base list) query before after (Err refusal) → LookAnswers base known known query before after (Err refusal)
refused_answers base known list query before after Stopped there prefix is = (refl, is.1, there)
refused_answers base known list query before after OutOfMemory there prefix is = (refl, (list, (prefix, is)))
refused_answers base known list query before after refusal there prefix is = (refl, (list, (prefix, is)))

-- no plant answers that it has stopped
no_state_stops : (state : Option RowState) → state_report state ≢ Err Stopped
no_state_stops None = λ e. cc e
no_state_stops (Some s) = λ e. cc e

no_flood_stops : (ages : Option (List ℕ)) (flood : Option Bool) → flood_report ages flood ≢ Err Stopped
no_flood_stops None flood = λ e. cc e
no_flood_stops (Some ages) None = λ e. cc e
no_flood_stops (Some ages) (Some on) = λ e. cc e

no_choice_stops : (list : Choice) (q : Condensed) (there : Bool) → (if there then Ok (alarms (list_of list q)) else Err NoSuchList) ≢ Err Stopped
no_choice_stops list q true = λ e. cc e
no_choice_stops list q false = λ e. cc e

no_attributes_stop : (attr : Option Attr) → attributes_report attr ≢ Err Stopped
no_attributes_stop None = λ e. cc e
no_attributes_stop (Some a) = λ e. cc e

no_row_stops : (state : Option RowState) (attr : Option Attr) (moments : List ℕ) → row_report state attr moments ≢ Err Stopped
no_row_stops None attr moments = λ e. cc e
no_row_stops (Some s) None moments = λ e. cc e
no_row_stops (Some s) (Some a) moments = λ e. cc e

no_plant_stops : (q : Condensed) (query : Query) → look q query ≢ Err Stopped
no_plant_stops q (State i) = no_state_stops (slice_get q.panel.rows i.0)
no_plant_stops q (Flood area) = no_flood_stops (slice_get q.kept.ages area) (slice_get q.floods area)
no_plant_stops q (Area area) = no_choice_stops (choice.Area area) q (exists (choice.Area area) q)
no_plant_stops q (Priority n) = no_choice_stops (choice.Priority n) q (exists (choice.Priority n) q)
no_plant_stops q (Wheel slot) = no_choice_stops (choice.Wheel slot) q (exists (choice.Wheel slot) q)
no_plant_stops q Stale = no_choice_stops choice.Stale q (exists choice.Stale q)
no_plant_stops q Chatter = no_choice_stops choice.Chatter q (exists choice.Chatter q)
no_plant_stops q Plant = λ e. cc e
no_plant_stops q (Attributes i) = no_attributes_stop (slice_get q.panel.attrs i.0)
no_plant_stops q (Row i) = no_row_stops (slice_get q.panel.rows i.0) (slice_get q.panel.attrs i.0) (moments_in (slice_get q.kept.moments i.0))

pub no_look_stops : (q : Condensed) (query : Query) (before after : Answer) (refusal : Refusal) → IsLook q query before after (Err refusal) → refusal ≢ Stopped
no_look_stops q query before after refusal is = λ stopped. no_plant_stops q query (subst (λ (r : Refusal). IsLook q query before after (Err r)) stopped is).0

-- what is missing is no stop
pub missing_is_no_stop : (query : Query) → missing query ≢ Stopped
missing_is_no_stop (State i) = λ e. cc e
missing_is_no_stop (Flood area) = λ e. cc e
missing_is_no_stop (Area area) = λ e. cc e
missing_is_no_stop (Priority n) = λ e. cc e
missing_is_no_stop (Wheel slot) = λ e. cc e
missing_is_no_stop Stale = λ e. cc e
missing_is_no_stop Chatter = λ e. cc e
missing_is_no_stop Plant = λ e. cc e
missing_is_no_stop (Attributes i) = λ e. cc e
missing_is_no_stop (Row i) = λ e. cc e
