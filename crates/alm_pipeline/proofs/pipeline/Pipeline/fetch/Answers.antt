use Rattle.std.proofs.Common.{◌≡◌, ◌≤◌, ◌∙◌, ◌++◌, length, ap, sym, subst, refl, arith}
use Rattle.alm_model.specs.Judging.{accepted_of, entries_in}
use Rattle.alm_rings.specs.Placed.{released_by}
use Rattle.alm_rings.specs.Batches.{fetched_of, sealed_of, coming_in}
use Rattle.alm_store.specs.State.{StoreState}
use Rattle.alm_store.specs.Pace.{most_calls}
use Rattle.alm_flush.specs.HeldBatch.{stored_of, published_entries}
use Rattle.alm_pipeline.specs.World.{Nothing, fetches}
use Rattle.alm_flush.specs.Flushes.{IsGivenUp}
use Rattle.alm_pipeline.specs.Matches.{stage_of, entries_of, notes_of, batch_held_at}
use Rattle.alm_pipeline.proofs.Lists.{next_sealed, none_sealed}
use Rattle.alm_pipeline.proofs.Moved.{opened_as}
use Rattle.alm_pipeline.proofs.Paced.{fetched_in_pace, same_in_pace}
use Rattle.alm_pipeline.proofs.pipeline.Pipeline.fetch.Goals as goal

pub returns-then-not-waits-clause-answer : goal.returns-then-not-waits-clause-answer
returns-then-not-waits-clause-answer g c = λ w m possible.
    let mid = c.tell_batches.new.self in
    let f = (c.tell_batches.ensures.«open» w m).fits in
    none_sealed (fetched_of mid.flusher.fetch) (coming_in mid.flusher.fetch) (sealed_of mid.sequencer.ends) w.sealed c.tell_batches.ensures.knows.batches f.batches.waiting
    (λ some. absurd (cc (c.if-not-waits.ensures.1 some))) possible.2

pub returns-in-Got-clause-answer : goal.returns-in-Got-clause-answer
returns-in-Got-clause-answer g c = λ w m.
    let mid = c.tell_batches.new.self in
    let o = c.tell_batches.ensures.«open» w m in
    let f = o.fits in
    let gets = c.in-Got.ensures.answer in
    let n = next_sealed (fetched_of mid.flusher.fetch) (coming_in mid.flusher.fetch) (sealed_of mid.sequencer.ends) (coming_in c.fetch.new.self.fetch) gets.1.batch w.sealed c.tell_batches.ensures.knows.batches f.batches.waiting (c.if-not-waits.ensures.0 refl) gets.1.next in
    (o.opened, sym f.batches.held ∙ ap stage_of gets.0, omega (arith, ap length n.1))

pub returns-in-Got-clause-fits : goal.returns-in-Got-clause-fits
returns-in-Got-clause-fits g c = λ w m.
    let mid = c.tell_batches.new.self in
    let new = c.fetch.new.self in
    let o = c.tell_batches.ensures.«open» w m in
    let f = o.fits in
    let gets = c.in-Got.ensures.answer in
    let same = c.in-Got.ensures.same in
    let ends = c.in-Got.ensures.ends in
    let n = next_sealed (fetched_of mid.flusher.fetch) (coming_in mid.flusher.fetch) (sealed_of mid.sequencer.ends) (coming_in new.fetch) gets.1.batch w.sealed c.tell_batches.ensures.knows.batches f.batches.waiting (c.if-not-waits.ensures.0 refl) gets.1.next in
    let idle : w.stage ≡ Nothing = sym f.batches.held ∙ ap stage_of gets.0 in
    opened_as _ _ _ (ap (fetches w) (sym n.1)) (record {
      opened = o.opened;
      going = λ e. o.going (sym (ap (λ (s : StoreState). s.phase) c.in-Got.ensures.store.state) ∙ e);
      trying = λ x. subst IsGivenUp gets.1.held x;
      fits = record {
        slots = record { requests = f.slots.requests; judged = f.slots.judged; notes = λ s. ap (λ x. notes_of (released_by s x)) (ap (λ v. v.items) same.1) ∙ f.slots.notes s; receipts = f.slots.receipts; few = f.slots.few };
        batches = record {
          entries = f.batches.entries;
          waiting = n.2 ∙ ap (λ l. entries_of l ++ n.0) (sym gets.1.fetched);
          held = ap stage_of gets.1.held;
          spared = f.batches.spared ∙ omega (arith, ap length ends.1);
          eight = omega (arith, f.batches.eight, ap length n.1, ap batch_held_at idle);
        };
        lists = record {
          opened = f.lists.opened;
          judged_from = f.lists.judged_from;
          stored_from = ap (λ b. b.base.value) same.0 ∙ f.lists.stored_from;
          all = f.lists.all;
          kept = f.lists.kept ∙ (ap (λ h. f.lists.opened ++ accepted_of (entries_in (fetched_of mid.flusher.before.value) ++ stored_of h)) gets.0
              ∙ (ap (λ h. f.lists.opened ++ accepted_of (entries_in (fetched_of mid.flusher.before.value) ++ stored_of h)) (sym gets.1.held)
              ∙ ap (λ e. f.lists.opened ++ accepted_of (entries_in (fetched_of e) ++ stored_of new.held)) (sym same.2)));
          shown = f.lists.shown ∙ (ap (λ h. f.lists.opened ++ accepted_of (entries_in (fetched_of mid.flusher.before.value) ++ published_entries h)) gets.0
              ∙ (ap (λ h. f.lists.opened ++ accepted_of (entries_in (fetched_of mid.flusher.before.value) ++ published_entries h)) (sym gets.1.held)
              ∙ ap (λ e. f.lists.opened ++ accepted_of (entries_in (fetched_of e) ++ published_entries new.held)) (sym same.2)));
          enough = f.lists.enough;
        };
      };
    })

pub returns-then-not-waits-clause-paces : goal.returns-then-not-waits-clause-paces
returns-then-not-waits-clause-paces g c = λ w more m e. (more, omega arith, same_in_pace w more c.args.self.now _ c.tell_batches.ensures.store c.tell_batches.ensures.same.3 e)

pub returns-in-Got-clause-paces : goal.returns-in-Got-clause-paces
returns-in-Got-clause-paces g c = λ w more m e.
    let left = subst (λ k. (g.K.Store.state k).left ≤ most_calls) c.keeper.ensures.keeper c.images.ensures.few in
    fetched_in_pace w more _ e.few (returns-in-Got-clause-fits g c w m) left

pub returns-in-Empty-clause-paces : goal.returns-in-Empty-clause-paces
returns-in-Empty-clause-paces g c = λ w more m e.
    let answer = c.in-Empty.ensures.answer in
    (more, omega arith, same_in_pace w more c.args.self.now _ (c.in-Empty.ensures.kept (λ is. absurd (cc is)) ∙ c.tell_batches.ensures.store) (answer.1 ∙ (sym answer.0 ∙ c.tell_batches.ensures.same.3)) e)

pub returns-in-Held-clause-paces : goal.returns-in-Held-clause-paces
returns-in-Held-clause-paces g c = λ w more m e.
    (more, omega arith, same_in_pace w more c.args.self.now _ (c.in-Held.ensures.kept (λ is. absurd (cc is)) ∙ c.tell_batches.ensures.store) (c.in-Held.ensures.answer.1 ∙ c.tell_batches.ensures.same.3) e)
