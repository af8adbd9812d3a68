use Rattle.std.proofs.Common.{◌∙◌, ℕ, map, ap, rules, subst}
use Rattle.alm_model.specs.Plant.{Condensed}
use Rattle.alm_rings.specs.Batches.{SameSealEnds}
use Rattle.alm_rings.specs.Placed.{SameOutboxAt, inbox_at, outbox_at}
use Rattle.alm_seq.specs.Sequences.{SameInboxes}
use Rattle.alm_threads.specs.Histories.{JudgesAll}
use Rattle.alm_threads.specs.Parts.{FailsForCause, HaveFlushed}
use Rattle.alm_threads.specs.Same.{AllSame}
use Rattle.alm_threads.specs.declared.rings.Rings.{Rings}
use Rattle.alm_threads.proofs.Finished.{all_same_on}
use Rattle.alm_threads.proofs.Accounts.{accounts_on}
use Rattle.alm_threads.specs.Sources.{AllAccount, source_state}
use Rattle.alm_threads.proofs.Serves.{out_trans, same_at_trans}
use Rattle.alm_threads.proofs.Tied.{tied_still}
use Rattle.alm_threads.proofs.running.run_all.Goals as goal

pub new-flusher-requires-clause-named : goal.new-flusher-requires-clause-named
new-flusher-requires-clause-named g c =
    let m = c.args.middle in
    record { base = m.base; device = m.device; honest = m.honest; recovers = m.recovers }

pub end_run-requires-clause-tied : goal.end_run-requires-clause-tied
end_run-requires-clause-tied g c =
    let m = c.args.middle in
    let back = c.join.result in
    let consoles = c.join_all-consoles.result.consoles.items in
    let flushed = c.flush.new.flusher.flusher.outboxes.items in
    tied_still _ consoles m.rings.inboxes.items back.inboxes.items m.flusher.outboxes.items flushed
    (subst (λ ps. AllSame (map (λ p. p.console) ps) consoles) c.in-Ok-start_all.ensures.each c.join_all-consoles.ensures.each)
    (subst (λ (r : Rings). SameInboxes r.inboxes.items back.inboxes.items) c.in-Ok.ensures.0 c.join.ensures.inboxes)
    (λ s. subst (λ o. SameOutboxAt (outbox_at s o.items) (outbox_at s flushed)) c.new-flusher.ensures.parts.2 (c.flush.ensures.kept.1 s)) c.requires.tied

pub returns-clause-back : goal.returns-clause-back
returns-clause-back g c =
    let s = g.K.Store in
    let d = g.K.Device.Disk in
    let m = c.args.middle in
    let back = c.join.result in
    let end = c.end_run.result in
    let e = c.end_run.ensures in
    let consoles = c.join_all-consoles.result.consoles.items in
    let flushed = c.flush.new.flusher.flusher in
    let joined = subst (λ ps. AllSame (map (λ p. p.console) ps) consoles) c.in-Ok-start_all.ensures.each c.join_all-consoles.ensures.each in
    let all = all_same_on _ consoles end.consoles.items joined e.ends.0 in
    let first = ap (λ x. x.value) c.flush.ensures.kept.3 ∙ c.new-flusher.ensures.first in
    let inboxes : SameInboxes m.rings.inboxes.items end.rings.inboxes.items = λ n.
    same_at_trans (inbox_at n m.rings.inboxes.items) (inbox_at n back.inboxes.items) (inbox_at n end.rings.inboxes.items)
    (subst (λ (r : Rings). SameInboxes r.inboxes.items back.inboxes.items) c.in-Ok.ensures.0 c.join.ensures.inboxes n) (e.ends.2 n) in
    let outboxes : (n : ℕ) → SameOutboxAt (outbox_at n m.flusher.outboxes.items) (outbox_at n end.flusher.outboxes.items) = λ n.
    out_trans (outbox_at n m.flusher.outboxes.items) (outbox_at n flushed.outboxes.items) (outbox_at n end.flusher.outboxes.items)
    (subst (λ o. SameOutboxAt (outbox_at n o.items) (outbox_at n flushed.outboxes.items)) c.new-flusher.ensures.parts.2 (c.flush.ensures.kept.1 n)) (e.outboxes n) in
    let sealed = subst (λ (r : Rings). SameSealEnds r.ends back.ends) c.in-Ok.ensures.0 c.join.ensures.ends in
    let later = e.ends.3 in
    let kept = c.flush.ensures.kept.0 in
    record {
      same = all;
      judged = record {
        inboxes = inboxes;
        ends = search rules;
        judged = subst (λ (q : Condensed). JudgesAll q end.rings.inboxes.items end.rings.ends) (c.join.ensures.base ∙ (c.in-Ok.ensures.1 ∙ m.live)) e.judged;
      };
      flushed = record {
        outboxes = outboxes;
        fetch = search rules;
        flushed = subst (λ k. HaveFlushed s d k end.moments end.flusher) first e.flushed;
      };
      tied = tied_still _ end.consoles.items m.rings.inboxes.items end.rings.inboxes.items m.flusher.outboxes.items end.flusher.outboxes.items all inboxes outboxes c.requires.tied;
      batches = search rules;
      end = e.end;
      failed = subst (λ k. FailsForCause s d end.cause k end.flusher.store) first e.failed;
    }

pub returns-clause-accounts : goal.returns-clause-accounts
returns-clause-accounts g c =
    let joined = c.join_all-consoles in
    let did = g.S.Source.did in
    let all = subst (λ ps. AllAccount did (map (λ p. source_state p.source p.look p.console) ps) joined.result.sources.items joined.result.consoles.items) c.in-Ok-start_all.ensures.each joined.ensures.accounts in
    accounts_on did (map (λ p. source_state p.source p.look p.console) c.args.slot_parts.items) joined.result.sources.items joined.result.consoles.items c.end_run.result.consoles.items c.end_run.ensures.ends.1 all
