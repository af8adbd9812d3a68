use Rattle.std.proofs.Common.{◌≡◌, ◌∙◌, ◌++◌, [], ◌∷◌, length, ap, sym, arith, append_assoc, length-append}
use Rattle.std.proofs.lemmas.List.{append-nil}
use Rattle.alm_model.specs.Judging.{accepted_of, entries_in}
use Rattle.alm_rings.specs.Placed.{taken_by}
use Rattle.alm_rings.specs.Batches.{fetched_of, sealed_of, emptied_of, empties_in}
use Rattle.alm_model.proofs.Legal.{entries_snoc}
use Rattle.alm_seq.specs.Spares.{spares}
use Rattle.alm_pipeline.specs.World.{after_step}
use Rattle.alm_pipeline.specs.Matches.{entries_of}
use Rattle.alm_pipeline.specs.declared.step.Step.TheVariants as S
use Rattle.alm_pipeline.specs.declared.step_event.StepEvent.TheVariants as E
use Rattle.alm_pipeline.proofs.Lists.{lists_append, lists_length}
use Rattle.alm_pipeline.proofs.pipeline.Pipeline.seal.Goals as goal

pub returns-in-Sealed-clause-answer : goal.returns-in-Sealed-clause-answer
returns-in-Sealed-clause-answer g c = λ w m.
    let mid = c.tell_batches.new.self in
    let o = c.tell_batches.ensures.«open» w m in
    let f = o.fits in
    let s = c.in-Sealed.ensures.answer in
    let later = c.tell_batches-in-Sealed.new.self in
    let k = c.tell_batches-in-Sealed.ensures in (
      o.opened,
      omega (arith, s.some, ap length f.batches.entries),
      omega (arith, s.free, f.batches.spared, ap length k.knows.empties, length-append (emptied_of later.sequencer.ends) (empties_in later.sequencer.ends), ap length k.empties.0, ap length k.empties.1),
    )

pub returns-in-Sealed-clause-fits : goal.returns-in-Sealed-clause-fits
returns-in-Sealed-clause-fits g c = λ w m.
    let mid = c.tell_batches.new.self in
    let o = c.tell_batches.ensures.«open» w m in
    let f = o.fits in
    let s = c.in-Sealed.ensures.answer in
    let new = c.seal.new.self in
    let old = mid.sequencer in
    let free = (returns-in-Sealed-clause-answer g c w m).2 in
    let items = old.batch.entries in
    let fetched = entries_of (fetched_of mid.flusher.fetch) in
    let entries : entries_in (sealed_of new.ends) ++ new.batch.entries ≡ entries_in (sealed_of old.ends) ++ items =
    ap (λ l. entries_in (sealed_of new.ends) ++ l) s.entries ∙ (append-nil (entries_in (sealed_of new.ends)) ∙ (ap entries_in s.sealed ∙ entries_snoc (sealed_of old.ends) old.batch)) in
    c.tell_batches-in-Sealed.ensures.«open» (after_step w S.Seal E.Sealed) (record {
      opened = o.opened;
      going = o.going;
      trying = o.trying;
      fits = record {
        slots = record { requests = f.slots.requests; judged = λ s. ap (λ v. length (taken_by s v.items)) c.in-Sealed.ensures.inboxes ∙ f.slots.judged s; notes = f.slots.notes; receipts = f.slots.receipts; few = f.slots.few };
        batches = record {
          entries = s.entries;
          waiting = ap entries_of s.sealed ∙ (lists_append (sealed_of old.ends) (old.batch ∷ []) ∙ (ap (λ l. l ++ items ∷ []) f.batches.waiting ∙ (append_assoc fetched w.sealed (items ∷ []) ∙ ap (λ e. fetched ++ (w.sealed ++ e ∷ [])) f.batches.entries)));
          held = f.batches.held;
          spared = omega (arith, free, s.free, f.batches.spared, ap spares s.spare);
          eight = omega (arith, free, f.batches.eight, length-append w.sealed (w.taking ∷ []));
        };
        lists = record {
          opened = f.lists.opened;
          judged_from = c.in-Sealed.ensures.base ∙ f.lists.judged_from;
          stored_from = f.lists.stored_from;
          all = f.lists.all ∙ ap (λ l. f.lists.opened ++ accepted_of l) (sym entries);
          kept = f.lists.kept;
          shown = f.lists.shown;
          enough = f.lists.enough;
        };
      };
    })

pub returns-in-NoRoom-clause-answer : goal.returns-in-NoRoom-clause-answer
returns-in-NoRoom-clause-answer g c = λ w m possible.
    let mid = c.tell_batches.new.self in
    let f = (c.tell_batches.ensures.«open» w m).fits in
    let k = c.tell_batches.ensures.knows in
    let a = c.in-NoRoom.ensures.answer in
    let none = a.3 (omega (arith, possible.2, f.batches.spared, ap length k.empties, length-append (emptied_of mid.sequencer.ends) (empties_in mid.sequencer.ends))) in
    absurd (omega (arith, none, possible.2, f.batches.eight, k.places, ap length f.batches.waiting, length-append (entries_of (fetched_of mid.flusher.fetch)) w.sealed, lists_length (sealed_of mid.sequencer.ends), lists_length (fetched_of mid.flusher.fetch)))
