use Rattle.std.proofs.Common.{◌≡◌, ◌∙◌, ◌++◌, ℕ, Some, slice_get, length, map, ap, sym, subst, arith}
use Rattle.std.specs.Prelude.{IsSome}
use Rattle.alm_model.specs.Judging.{accepted_of, entries_in, of_slot}
use Rattle.alm_model.specs.Step.{run}
use Rattle.alm_rings.specs.declared.console.Console.{Console}
use Rattle.alm_rings.specs.Batches.{fetched_of, sealed_of}
use Rattle.alm_rings.specs.Placed.{inbox_at}
use Rattle.alm_rings.specs.Ends.{sent_of, received_of}
use Rattle.alm_threads.specs.Histories.{LeavesOneOf}
use Rattle.alm_threads.proofs.Causes.{failed_by}
use Rattle.alm_threads.proofs.Moments.{accepted_prefix, endures_on}
use Rattle.alm_threads.specs.Same.{AllSame}
use Rattle.alm_threads.specs.Parts.{FailsForCause}
use Rattle.alm_threads.specs.Runs.{AnswersConsole, HasReport}
use Rattle.alm_threads.specs.Slots.{AreTied}
use Rattle.alm_threads.specs.Sources.{AllAccount, states_of}
use Rattle.alm_threads.proofs.Accounts.{states_are}
use Rattle.alm_threads.proofs.Answering.{answers_by, nobody_asked}
use Rattle.alm_threads.proofs.Tied.{stands_at, apart_by, map_count, prefix_on, entries_prefix, same_slots}
use Rattle.alm_threads.proofs.running.run_with_bells.Goals as goal

pub slot_parts_of-slot_parts-requires-clause-place : goal.slot_parts_of-slot_parts-requires-clause-place
slot_parts_of-slot_parts-requires-clause-place g c = λ k n s at is. subst (λ l. slice_get l k ≡ Some n) (sym c.args.parts.order) (c.requires.place k n s at is)

pub in_scope-requires-clause-serves : goal.in_scope-requires-clause-serves
in_scope-requires-clause-serves g c = λ _ _ k s at. (let d = stands_at (λ (x : Console _ _). x.slot) c.args.parts.consoles.items c.args.parts.slots.items k s c.args.parts.order at in
    subst (λ n. IsSome (inbox_at n c.args.parts.middle.rings.inboxes.items)) d.1.1 (c.args.parts.inboxes k d.0 d.1.0))

pub in_scope-requires-clause-tied : goal.in_scope-requires-clause-tied
in_scope-requires-clause-tied g c = λ _ _.
    let p = c.args.parts in
    subst (λ cs. AreTied cs p.middle.rings.inboxes.items p.middle.flusher.outboxes.items) (sym c.slot_parts_of-slot_parts.ensures.consoles) (record {
      has_inbox = p.inboxes;
      has_outbox = p.outboxes;
      requests = p.requests;
      replies = p.replies;
    })

pub report_of-requires-clause-tied : goal.report_of-requires-clause-tied
report_of-requires-clause-tied g c =
    let p = c.args.parts in
    let back = c.in_ok-ends.field-0.ends.consoles.items in
    let all = subst (λ cs. AllSame cs back) c.slot_parts_of-slot_parts.ensures.consoles c.in_ok-ends.ensures.back.same in
    (apart_by (λ (x : Console _ _). x.slot) back p.slots.items (same_slots p.consoles.items back all ∙ p.order) p.apart, c.in_ok-ends.ensures.back.tied)

pub report_of-requires-clause-room : goal.report_of-requires-clause-room
report_of-requires-clause-room g c =
    let p = c.args.parts in
    let back = c.in_ok-ends.field-0.ends.consoles in
    let all = subst (λ cs. AllSame cs back.items) c.slot_parts_of-slot_parts.ensures.consoles c.in_ok-ends.ensures.back.same in
    let order = same_slots p.consoles.items back.items all ∙ p.order in
    (c.in-Ok.ensures.reports.0, omega (arith, c.in-Ok.ensures.reports.1, c.len.ensures, back.ok, p.slots.ok, map_count (λ (x : Console _ _). x.slot) back.items, ap length order))

pub returns-clause-run : goal.returns-clause-run
returns-clause-run g c =
    let p = c.args.parts in
    let e = c.in_ok-ends.field-0.ends in
    let f = c.in_ok-ends.ensures.back in
    let all = subst (λ cs. AllSame cs e.consoles.items) c.slot_parts_of-slot_parts.ensures.consoles f.same in
    let order = same_slots p.consoles.items e.consoles.items all ∙ p.order in
    let entries = f.judged.judged.entries in
    let fetched = fetched_of e.flusher.fetch in
    let sealed = sealed_of e.rings.ends in
    let reports = c.report_of.result.slots.items in
    let answers : (k : ℕ) (d : Console _ _) → slice_get e.consoles.items k ≡ Some d → AnswersConsole entries f.flushed.flushed.told reports k d = λ k d at. answers_by entries f.flushed.flushed.told e.rings.inboxes.items e.flusher.outboxes.items reports k d
    (f.judged.judged.wants d.slot) (f.judged.judged.serials d.slot) (f.flushed.flushed.released d.slot) (c.report_of.ensures.closed.1 k d at) in
    record {
      run = record {
        entries = entries;
        legal = f.judged.judged.legal;
        kept = f.flushed.flushed.kept;
        prefix = prefix_on f.flushed.flushed.kept (entries_in fetched) entries f.flushed.flushed.fetched (prefix_on (entries_in fetched) (entries_in sealed) entries (entries_prefix fetched sealed c.report_of.ensures.fetched) f.judged.judged.sealed);
        stored_is = ap (λ k. (g.K.Store.state k).stored) c.report_of.ensures.parts.0 ∙ f.flushed.flushed.stored_is;
        waiting = f.flushed.flushed.waiting;
        ahead = prefix_on (f.flushed.flushed.kept ++ f.flushed.flushed.waiting) (entries_in fetched) entries f.flushed.flushed.ahead (prefix_on (entries_in fetched) (entries_in sealed) entries (entries_prefix fetched sealed c.report_of.ensures.fetched) f.judged.judged.sealed);
        device = subst (λ (k : _). LeavesOneOf (g.K.Device.Disk.honest (g.K.Store.disk p.middle.flusher.store)) (g.K.Device.Disk.honest (g.K.Store.disk k)) g.K.Store.recovers (g.K.Device.Disk.state (g.K.Store.disk k)) (g.K.Store.state k).stored (run (g.K.Store.state k).stored (accepted_of f.flushed.flushed.waiting)))
            (sym c.report_of.ensures.parts.0) f.flushed.flushed.device;
        told = f.flushed.flushed.told;
        within = f.flushed.flushed.within;
        course = endures_on g.K.Store.recovers (g.K.Store.state p.middle.flusher.store).stored (g.K.Device.Disk.honest (g.K.Store.disk p.middle.flusher.store)) (g.K.Device.Disk.state (g.K.Store.disk p.middle.flusher.store)) (g.K.Device.Disk.state (g.K.Store.disk e.flusher.store)) (g.K.Device.Disk.state (g.K.Store.disk c.report_of.result.keeper)) e.moments c.report_of.result.moments (accepted_of (entries_in fetched)) (accepted_of entries) _
            (ap (λ k. g.K.Device.Disk.state (g.K.Store.disk k)) (sym c.report_of.ensures.parts.0)) (sym c.report_of.ensures.parts.1) (accepted_prefix (entries_in fetched) entries (prefix_on (entries_in fetched) (entries_in sealed) entries (entries_prefix fetched sealed c.report_of.ensures.fetched) f.judged.judged.sealed)) f.flushed.flushed.course;
        only = λ s none. nobody_asked (inbox_at s p.middle.rings.inboxes.items) (inbox_at s e.rings.inboxes.items) (of_slot s entries) (f.judged.inboxes s) (p.only s none) (f.judged.judged.wants s);
        count = c.report_of.ensures.closed.0 ∙ (sym (map_count (λ (x : Console _ _). x.slot) e.consoles.items) ∙ ap length order);
        each = λ k s at. (
            let d = stands_at (λ (x : Console _ _). x.slot) e.consoles.items p.slots.items k s order at in (
              length (sent_of d.0),
              length (received_of d.0),
              subst (λ n. HasReport reports k (length (sent_of d.0)) (length (of_slot n entries)) (length (of_slot n f.flushed.flushed.told)) (length (received_of d.0))) d.1.1 (answers k d.0 d.1.0).report,
            ));
      };
      same = subst (λ (cs : _). AllSame p.consoles.items cs.items) (sym c.report_of.ensures.parts.2) all;
      answers = λ k d at. answers k d (ap (λ (cs : _). slice_get cs.items k) (sym c.report_of.ensures.parts.2) ∙ at);
      failed = failed_by c.report_of.result.storage c.report_of.result.cause e.cause (λ stopped. c.report_of.ensures.cause stopped) c.report_of.result.uncaused
          (subst (λ k. FailsForCause g.K.Store g.K.Device.Disk e.cause p.middle.flusher.store k) (sym c.report_of.ensures.parts.0) f.failed);
    }

pub returns-clause-accounts : goal.returns-clause-accounts
returns-clause-accounts g c =
    let p = c.args.parts in
    let e = c.in_ok-ends in
    let made = c.slot_parts_of-slot_parts in
    let did = g.S.Source.did in
    let sources = e.field-0.sources.items in
    let looks = map (λ q. q.look) made.result.items in
    let consoles = map (λ q. q.console) made.result.items in
    let states =
    states_are (λ q. q.source) (λ q. q.look) (λ q. q.console) made.result.items
    ∙ (ap (λ xs. states_of xs looks consoles) made.ensures.sources
    ∙ (ap (λ ls. states_of c.args.sources.items ls consoles) made.ensures.looks
    ∙ ap (λ cs. states_of c.args.sources.items p.looks.items cs) made.ensures.consoles)) in
    subst (λ (cs : _). AllAccount did (states_of c.args.sources.items p.looks.items p.consoles.items) sources cs.items) (sym c.report_of.ensures.parts.2)
    (subst (λ froms. AllAccount did froms sources e.field-0.ends.consoles.items) states e.ensures.accounts)
