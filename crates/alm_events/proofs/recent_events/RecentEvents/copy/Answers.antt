use Rattle.std.proofs.Common.{◌≡◌, ◌≤◌, ◌++◌, ◌∷◌, [], take, drop, length, ap, sym, ◌∙◌, arith, length-drop}
use Rattle.std.proofs.lemmas.List.{take_all}
use Rattle.alm_events.specs.Events.{most_told}
use Rattle.alm_events.proofs.Turns.{one_more_taken}
use Rattle.alm_events.proofs.recent_events.RecentEvents.copy.Goals as goal
use Rattle.alm_events.proofs.recent_events.RecentEvents.copy.Goals.{then-rest-lt-MOST_TOLD, else-rest-lt-MOST_TOLD}

pub loop-index-preserved : goal.loop-index-preserved
loop-index-preserved c = record {
  told = c.push_reserved.ensures.items ∙ (ap (λ l. l ++ c.at-moment.result ∷ []) c.loop-index.invariant.told ∙ sym (one_more_taken c.args.self.now c.args.from c.loop-index.index c.at-moment.result c.at-moment.ensures));
  room = c.push_reserved.ensures.capacity ∙ c.loop-index.invariant.room;
  within = omega (arith, c.loop-index-test.true);
}

pub returns-clause-told : goal.returns-clause-told
returns-clause-told c =
    let v = c.args.self.now in
    let end : c.loop-index.index ≡ c.if-rest-lt-MOST_TOLD.more = omega (arith, c.loop-index-test.false, c.loop-index.invariant.within) in
    elim c.if-rest-lt-MOST_TOLD.branch [
      | then-rest-lt-MOST_TOLD w ↦
          (let here : c.loop-index.index ≡ length (drop c.args.from v) = omega (arith, end, w.more-is, c.len.ensures.length, length-drop c.args.from v) in
          let few : length (drop c.args.from v) ≤ most_told = omega (arith, w.if-rest-lt-MOST_TOLD.true, c.len.ensures.length, length-drop c.args.from v) in
          c.loop-index.invariant.told ∙ (take_all c.loop-index.index (drop c.args.from v) (omega (arith, here)) ∙ sym (take_all most_told (drop c.args.from v) few)))
      | else-rest-lt-MOST_TOLD w ↦
          (let all : c.loop-index.index ≡ most_told = omega (arith, end, w.more-is) in
          c.loop-index.invariant.told ∙ ap (λ n. take n (drop c.args.from v)) all)
    ]
