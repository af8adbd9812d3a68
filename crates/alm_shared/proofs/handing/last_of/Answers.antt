use Rattle.std.proofs.Common.{◌≡◌, ◌-◌, ◌+◌, ◌≤◌, ◌≢◌, ◌++◌, [], ◌∷◌, length, take, drop, ap, sym, ◌∙◌, arith, length-append, length-drop, vec_capacity}
use Rattle.alm_types.specs.declared.logged_action.LoggedAction.{LoggedAction}
use Rattle.alm_model.specs.Judging.{logged_of}
use Rattle.alm_model.proofs.Legal.{logged_accepted, logged_refused}
use Rattle.alm_board.proofs.PrefixOfLaws.{prefix_of_length}
use Rattle.alm_shared.proofs.Behinds.{logged_prefix, one_taken, one_passed}
use Rattle.alm_shared.proofs.handing.last_of.Goals as goal
use Rattle.alm_shared.proofs.handing.last_of.Goals.{in-Accepted+then-before-eq0, in-Accepted+else-before-eq0, in-Refused}

pub push_reserved-requires : goal.push_reserved-requires
push_reserved-requires c =
    let items = c.entries-entry-items.result.now in
    let k = c.loop-entry.entry-index in
    let d = c.entry-item.result in
    let a : LoggedAction = record { slot = d.slot; serial = d.serial; action = c.in-Accepted.action } in
    let before = logged_of (take k items) in
    let inv = c.loop-entry.invariant in
    let more : logged_of (take (k + 1) items) ≡ before ++ a ∷ [] = logged_accepted items k d c.in-Accepted.action c.loop-entry-test.true c.entry-item.is c.in-Accepted.is in
    let within : length before + 1 ≤ length (logged_of items) = omega (arith, ap length more, length-append before (a ∷ []), prefix_of_length (logged_of (take (k + 1) items)) (logged_of items) (logged_prefix items (k + 1))) in
    let all : c.args.from + c.args.more ≡ length (logged_of items) = c.requires.more ∙ ap (λ l. length (logged_of l)) (sym c.entries-entry-items.ensures.entries) in
    omega (arith, within, all, ap length inv.last, length-drop c.args.from before, inv.before, inv.room, c.if-before-eq0.true)

pub loop-entry-preserved : goal.loop-entry-preserved
loop-entry-preserved c =
    let items = c.entries-entry-items.result.now in
    let k = c.loop-entry.entry-index in
    let d = c.entry-item.result in
    let before = logged_of (take k items) in
    let inv = c.loop-entry.invariant in
    elim c.match-entry.branch [
      | in-Accepted+then-before-eq0 w ↦
          (let a : LoggedAction = record { slot = d.slot; serial = d.serial; action = w.in-Accepted.action } in
          let more : logged_of (take (k + 1) items) ≡ before ++ a ∷ [] = logged_accepted items k d w.in-Accepted.action c.loop-entry-test.true c.entry-item.is w.in-Accepted.is in
          let taken : drop c.args.from (logged_of (take (k + 1) items)) ≡ drop c.args.from before ++ a ∷ [] = ap (λ l. drop c.args.from l) more ∙ one_taken before a c.args.from (omega (arith, inv.before, w.if-before-eq0.true)) in
          record {
            last = ap (λ v. v.items) w.last-is ∙ (w.push_reserved.ensures.items ∙ (ap (λ l. l ++ a ∷ []) inv.last ∙ sym taken));
            before = omega (arith, w.before-is, inv.before, w.if-before-eq0.true, ap length more, length-append before (a ∷ []));
            room = ap vec_capacity w.last-is ∙ (w.push_reserved.ensures.capacity ∙ inv.room);
          })
      | in-Accepted+else-before-eq0 w ↦
          (let a : LoggedAction = record { slot = d.slot; serial = d.serial; action = w.in-Accepted.action } in
          let more : logged_of (take (k + 1) items) ≡ before ++ a ∷ [] = logged_accepted items k d w.in-Accepted.action c.loop-entry-test.true c.entry-item.is w.in-Accepted.is in
          let some : c.args.from - length before ≢ 0 = λ none. w.if-before-eq0.false (inv.before ∙ none) in
          let passed : drop c.args.from (logged_of (take (k + 1) items)) ≡ drop c.args.from before = ap (λ l. drop c.args.from l) more ∙ one_passed before a c.args.from some in
          record {
            last = ap (λ v. v.items) w.last-is ∙ (inv.last ∙ sym passed);
            before = omega (arith, w.before-is, inv.before, w.if-before-eq0.false, ap length more, length-append before (a ∷ []));
            room = ap vec_capacity w.last-is ∙ inv.room;
          })
      | in-Refused w ↦
          (let none : logged_of (take (k + 1) items) ≡ before = logged_refused items k d w.in-Refused.field-0 w.in-Refused.field-1 c.loop-entry-test.true c.entry-item.is w.in-Refused.is in
          record {
            last = ap (λ v. v.items) w.last-is ∙ (inv.last ∙ ap (λ l. drop c.args.from l) (sym none));
            before = omega (arith, w.before-is, inv.before, ap length none);
            room = ap vec_capacity w.last-is ∙ inv.room;
          })
    ]
