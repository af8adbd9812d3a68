use Rattle.std.proofs.Common.{◌≡◌, rules, arith, ap}
use Rattle.std.specs.Prelude.{filter}
use Rattle.std.proofs.lemmas.Fn.{filter_same, always_returns_same}
use Rattle.alm_lists.proofs.Sorted.{sorted_filter-is}
use Rattle.alm_wheel.specs.Deadlines.{Schedule, deadline_key, is_deadline_due}
use Rattle.alm_wheel.proofs.Sorting.{due_sorted}
use Rattle.alm_wheel.proofs.wheel.Wheel.due.Goals as goal

pub returns-clause-due : goal.returns-clause-due
returns-clause-due c =
    let deadlines = ap (λ (w : Schedule). w.deadlines) c.self.view_is in
    let slots = ap (λ (w : Schedule). w.slots) c.self.view_is in
    let read = c.as_slice-deadlines.ensures.value in
    let passed : c.retain.new.self.items ≡ filter (is_deadline_due c.args.from c.args.to c.self.inside.deadlines.items) c.gather.new.out.items =
    filter_same _ _ _ (λ x b f' k. search rules) _ _ c.retain.ensures.filtered in
    let sorted = c.sort_unstable_by_key.ensures.sorted (λ n. (deadline_key c.self.inside.deadlines.items n, n)) (always_returns_same _ _ _ (λ a r g h. search rules)) in
    rw (← deadlines)
    (due_sorted c.self.inside.deadlines.items c.self.inside.slots c.args.from c.args.to c.gather.new.out.items c.retain.new.self.items c.sort_unstable_by_key.new.self.items c.self.invariant
    (rw slots c.gather.ensures.items) passed c.sort_unstable_by_key.ensures.permutation (λ k d h. sorted k d (omega arith) h))

pub returns-clause-list : goal.returns-clause-list
returns-clause-list c =
    let deadlines = ap (λ (w : Schedule). w.deadlines) c.self.view_is in
    let slots = ap (λ (w : Schedule). w.slots) c.self.view_is in
    let read = c.as_slice-deadlines.ensures.value in
    let passed : c.retain.new.self.items ≡ filter (is_deadline_due c.args.from c.args.to c.self.inside.deadlines.items) c.gather.new.out.items =
    filter_same _ _ _ (λ x b f' k. search rules) _ _ c.retain.ensures.filtered in
    let sorted = c.sort_unstable_by_key.ensures.sorted (λ n. (deadline_key c.self.inside.deadlines.items n, n)) (always_returns_same _ _ _ (λ a r g h. search rules)) in
    rw (← deadlines)
    (sorted_filter-is _ _ _ _
    (due_sorted c.self.inside.deadlines.items c.self.inside.slots c.args.from c.args.to c.gather.new.out.items c.retain.new.self.items c.sort_unstable_by_key.new.self.items c.self.invariant
    (rw slots c.gather.ensures.items) passed c.sort_unstable_by_key.ensures.permutation (λ k d h. sorted k d (omega arith) h)))
