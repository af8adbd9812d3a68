use Rattle.std.proofs.Common.{◌≡◌, ◌∙◌, ◌++◌, [], ◌∷◌, ap, sym, take, append_assoc}
use Rattle.alm_model.specs.Judging.{accepted_of, logged_of}
use Rattle.alm_model.specs.Rules.{AllAdmitted}
use Rattle.alm_model.specs.Accept.{refusal}
use Rattle.alm_model.specs.Step.{run}
use Rattle.alm_model.proofs.Runs.{run_append}
use Rattle.alm_model.proofs.Legal.{admitted_at, take_accepted, take_refused, logged_accepted, logged_refused}
use Rattle.alm_board.specs.Logs.{actions_of, logged_in}
use Rattle.alm_board.proofs.plain_board.PlainBoardPublishUnitUnit.publish.Goals as goal
use Rattle.alm_board.proofs.plain_board.PlainBoardPublishUnitUnit.publish.Goals.{in-Accepted, in-Refused}

pub add-requires : goal.add-requires
add-requires g c =
    let old = c.args.self.now in
    let now = c.loop-entry.self in
    let base = g.P.Alarms.plant old.base.value in
    let items = c.entries-entry-items.result.now in
    let k = c.loop-entry.entry-index in
    let before = accepted_of (take k items) in
    let all : AllAdmitted (run base (actions_of old.log)) (accepted_of items) = rw c.entries-entry-items.ensures.entries c.requires.admitted in
    let may = admitted_at (run base (actions_of old.log)) items k c.entry-item.result c.in-Accepted.action c.loop-entry-test.true (ap (λ e. e.verdict) (sym c.entry-item.is) ∙ c.in-Accepted.is) all in
    let plant : g.P.Alarms.plant now.plant ≡ run (run base (actions_of old.log)) before =
    now.is_fold ∙ (ap (λ b. run b (actions_of now.log)) c.loop-entry.invariant.base ∙ (ap (run base) c.loop-entry.invariant.list ∙ run_append base (actions_of old.log) before)) in
    ap (λ p. refusal p.panel c.in-Accepted.action) plant ∙ may

pub loop-entry-preserved : goal.loop-entry-preserved
loop-entry-preserved g c =
    let items = c.entries-entry-items.result.now in
    let k = c.loop-entry.entry-index in
    let old = c.args.self.now in
    let d = c.entry-item.result in
    let before = accepted_of (take k items) in
    let logged = logged_of (take k items) in
    elim c.match-entry.branch [
      | in-Accepted w ↦ record {
        base = ap (λ b. g.P.Alarms.plant b.base.value) w.self-is ∙ (w.add.ensures.base ∙ c.loop-entry.invariant.base);
        list = ap (λ b. actions_of b.log) w.self-is ∙ (w.add.ensures.published ∙ (ap (λ l. l ++ w.in-Accepted.action ∷ []) c.loop-entry.invariant.list
            ∙ (append_assoc (actions_of old.log) before (w.in-Accepted.action ∷ []) ∙ ap (λ l. actions_of old.log ++ l) (sym (take_accepted items k d w.in-Accepted.action c.loop-entry-test.true (ap (λ e. e.verdict) (sym c.entry-item.is) ∙ w.in-Accepted.is))))));
        logged = ap (λ b. logged_in b.log) w.self-is ∙ (w.add.ensures.logged ∙ (ap (λ l. l ++ record { slot = d.slot; serial = d.serial; action = w.in-Accepted.action } ∷ []) c.loop-entry.invariant.logged
            ∙ (append_assoc (logged_in old.log) logged (record { slot = d.slot; serial = d.serial; action = w.in-Accepted.action } ∷ []) ∙ ap (λ l. logged_in old.log ++ l) (sym (logged_accepted items k d w.in-Accepted.action c.loop-entry-test.true c.entry-item.is w.in-Accepted.is)))));
      }
      | in-Refused w ↦ record {
        base = ap (λ b. g.P.Alarms.plant b.base.value) w.self-is ∙ c.loop-entry.invariant.base;
        list = ap (λ b. actions_of b.log) w.self-is ∙ (c.loop-entry.invariant.list
            ∙ ap (λ l. actions_of old.log ++ l) (sym (take_refused items k d w.in-Refused.field-0 w.in-Refused.field-1 c.loop-entry-test.true (ap (λ e. e.verdict) (sym c.entry-item.is) ∙ w.in-Refused.is))));
        logged = ap (λ b. logged_in b.log) w.self-is ∙ (c.loop-entry.invariant.logged
            ∙ ap (λ l. logged_in old.log ++ l) (sym (logged_refused items k d w.in-Refused.field-0 w.in-Refused.field-1 c.loop-entry-test.true c.entry-item.is w.in-Refused.is)));
      }
    ]
