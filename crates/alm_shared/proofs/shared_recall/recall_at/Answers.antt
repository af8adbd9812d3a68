use Rattle.std.proofs.Common.{◌≡◌, ◌≤◌, ◌+◌, ◌-◌, ℕ, List, true, false, Option, length, ap, refl, sym, ◌∙◌, arith}
use Rattle.std.specs.Prelude.{unwrap_or}
use Rattle.alm_types.specs.declared.logged_action.LoggedAction.{LoggedAction}
use Rattle.alm_model.specs.Plant.{Condensed}
use Rattle.alm_model.specs.Judging.{logged_actions}
use Rattle.alm_model.specs.Step.{run}
use Rattle.alm_model.proofs.Runs.{run_count}
use Rattle.std.proofs.lemmas.List.{length-map}
use Rattle.alm_types.specs.declared.event.Event.{Event}
use Rattle.alm_events.specs.Events.{most_kept, last, events_from, asked_after, is_remembered, told_after}
use Rattle.alm_events.proofs.Recalling.{recalls, count_within, oldest_kept, remembered_if, forgotten_if}
use Rattle.alm_board.proofs.PrefixOfLaws.{prefix_of_prefix}
use Rattle.alm_moments.proofs.Prefixes.{prefix_shorter}
use Rattle.alm_shared.proofs.shared_recall.recall_at.Goals as goal

-- the count of what is shown
counted : (base q : Condensed) (list : List LoggedAction) (count : ℕ) → count ≡ q.panel.count → q ≡ run base (logged_actions list) → count ≡ base.panel.count + length list
counted base q list count is fold = omega (arith, is, ap (λ (p : Condensed). p.panel.count) fold, run_count base (logged_actions list), length-map list (λ l. l.action))

-- the number after which is reported
number_is : (base : Condensed) (list : List LoggedAction) (kept : List Event) (count size n : ℕ) (after : Option ℕ) → kept ≡ last most_kept (events_from base list) → count ≡ base.panel.count + length list → size ≡ length kept
    → n ≡ unwrap_or after (count - size) → n ≡ asked_after base list after
number_is base list kept count size n after is all long asked =
    asked ∙ ap (unwrap_or after) (ap (λ l. count - l) long ∙ oldest_kept base list kept count n is all)

pub overflow_sub-count : goal.overflow_sub-count
overflow_sub-count g c =
    let base = g.J.RunId.base in
    let list = c.args.shown.now.told.prefix in
    omega (arith, counted base (g.P.Alarms.plant c.args.shown.now.plant) list c.count-count.result c.count-count.ensures c.args.shown.now.is_fold, ap length c.args.shown.now.remembers, c.len-3.ensures.length, count_within base list)

-- what isn't remembered of what is shown
is_forgotten : (base q : Condensed) (list : List LoggedAction) (kept : List Event) (count size n : ℕ) (after : Option ℕ) → kept ≡ last most_kept (events_from base list) → count ≡ q.panel.count → q ≡ run base (logged_actions list) → size ≡ length kept
    → n ≡ unwrap_or after (count - size) → (count ≤ n + length kept → false ≡ true) → is_remembered base list (asked_after base list after) ≡ false
is_forgotten base q list kept count size n after is counts fold long asked not =
    let all = counted base q list count counts fold in
    ap (is_remembered base list) (sym (number_is base list kept count size n after is all long asked)) ∙ forgotten_if base list kept count n is all (λ le. cc (not le))

pub returns-then-not-recall-clause-forgotten : goal.returns-then-not-recall-clause-forgotten
returns-then-not-recall-clause-forgotten g c =
    let shown = c.args.shown.now in
    λ _. is_forgotten g.J.RunId.base (g.P.Alarms.plant shown.plant) shown.told.prefix shown.recent c.count-count.result c.len-3.result c.unwrap_or-number.result c.args.after shown.remembers c.count-count.ensures shown.is_fold c.len-3.ensures.length c.unwrap_or-number.ensures (c.if-not-recall.ensures.kept.1)

pub returns-then-not-recall-clause-answer : goal.returns-then-not-recall-clause-answer
returns-then-not-recall-clause-answer g c =
    let shown = c.args.shown.now in
    let known = c.args.known.now.prefix in
    let list = shown.told.prefix in
    let within = prefix_shorter known list c.longer.result c.longer.ensures.that c.longer.ensures.this (omega (arith, c.if-len.false, c.len.ensures.length, c.len-2.ensures.length)) in (
      refl,
      c.if-not-recall.ensures.forgotten refl,
      (list, (prefix_of_prefix known list within, is_forgotten g.J.RunId.base (g.P.Alarms.plant shown.plant) list shown.recent c.count-count.result c.len-3.result c.unwrap_or-number.result c.args.after shown.remembers c.count-count.ensures shown.is_fold c.len-3.ensures.length c.unwrap_or-number.ensures (c.if-not-recall.ensures.kept.1))),
    )

pub returns-clause-answer : goal.returns-clause-answer
returns-clause-answer g c =
    let base = g.J.RunId.base in
    let shown = c.args.shown.now in
    let list = shown.told.prefix in
    let n = c.unwrap_or-number.result in
    let all = counted base (g.P.Alarms.plant shown.plant) list c.count-count.result c.count-count.ensures shown.is_fold in
    let number = number_is base list shown.recent c.count-count.result c.len-3.result n c.args.after shown.remembers all c.len-3.ensures.length c.unwrap_or-number.ensures in
    let le = c.if-not-recall.ensures.kept.0 refl in
    let long : c.len-3.result ≡ length shown.recent = c.len-3.ensures.length in
    let told : c.recall.new.out.items ≡ told_after base list n = c.if-not-recall.ensures.told refl ∙ recalls base list shown.recent c.count-count.result n shown.remembers all le in
    rw (c.again.ensures.prefix, ← number) (record {
      remembered = remembered_if base list shown.recent c.count-count.result n shown.remembers all le;
      events_are = told;
      first = c.saturating_add.ensures;
      count = all;
    })
