use Rattle.std.proofs.Common.{◌≡◌, ◌∙◌, ◌+◌, ◌<◌, ◌≤◌, ◌++◌, ◌∷◌, [], drop, length, get_or, sym, rules, arith, refl, true, Ok, map}
use Rattle.std.proofs.lemmas.List.{drop_all, append-nil, map-append}
use Rattle.std.proofs.lemmas.List.Elements.{All-push}
use Rattle.toml.proofs.Views.{items_view-drop}
use Rattle.toml.specs.View.{view, items_view}
use Rattle.toml.specs.Data.{item}
use Rattle.alm_table.proofs.Alarms.{count_view, step_alarms, tables_step, tables_first}
use Rattle.alm_table.specs.TableFile.{are_tables, read_alarm, members_in}
use Rattle.alm_table.specs.Faults.{element_of}
use Rattle.alm_table.proofs.loading.alarms_of.Goals as goal

pub loop-value-preserved : goal.loop-value-preserved
loop-value-preserved c =
    let i = c.loop-value.value-index in
    let vs = c.args.array.now.items in
    let v = c.value-item.result in
    let a = c.in_ok-alarm.alarm in
    let was = c.loop-value.invariant in
    let in_range : i < length vs = search (rules, c.loop-value-test, c.deref-value-items.ensures.value) in
    let this : v ≡ get_or vs i v = search (rules, c.value-item.is, c.deref-value-items.ensures.value) in
    let split : items_view (drop i vs) ≡ item (view v) (items_view (drop (i + 1) vs)) = items_view-drop vs i v in_range ∙ rw (← this) refl in
    let tables : are_tables (item (view v) (items_view (drop (i + 1) vs))) ≡ true = rw (← split) was.1 in
    let made : read_alarm i c.args.areas (members_in (view v)) ≡ Ok (element_of a) = search (rules, c.in_ok-alarm.ensures.ok, was.0) in
    let items : c.push.new.self.items ≡ c.loop-value.alarms.items ++ a ∷ [] = search rules in
    let pushed : map element_of c.push.new.self.items ≡ map element_of c.loop-value.alarms.items ++ element_of a ∷ [] = rw (items, map-append element_of c.loop-value.alarms.items (a ∷ [])) refl in
    let few : i < 16384 = search (rules, count_view vs, c.requires.few, in_range) in (
      search (rules, was.0, few),
      sym (tables_step (view v) (items_view (drop (i + 1) vs)) (tables_first (view v) (items_view (drop (i + 1) vs)) tables)) ∙ tables,
      rw (pushed) (was.2 ∙ rw split (step_alarms i c.args.areas (view v) (items_view (drop (i + 1) vs)) (map element_of c.loop-value.alarms.items) (element_of a) made)),
      search (rules, was.3, items),
      omega (arith, in_range),
      rw items (All-push (λ x. x.area < c.args.areas) c.loop-value.alarms.items a was.5 c.in_ok-alarm.ensures.area),
    )

pub returns-clause-ok : goal.returns-clause-ok
returns-clause-ok c =
    let vs = c.args.array.now.items in
    let past : length vs ≤ c.loop-value.value-index = search (rules, c.loop-value-test, c.deref-value-items.ensures.value) in
    let none : drop c.loop-value.value-index vs ≡ [] = drop_all c.loop-value.value-index vs past in
    c.loop-value.invariant.2 ∙ rw (none, append-nil (map element_of c.loop-value.alarms.items)) refl

pub returns-clause-all : goal.returns-clause-all
returns-clause-all c =
    let past : length c.args.array.now.items ≤ c.loop-value.value-index = search (rules, c.loop-value-test, c.deref-value-items.ensures.value) in
    c.loop-value.invariant.3 ∙ omega (arith, past, c.loop-value.invariant.4) ∙ sym (count_view c.args.array.now.items)
