use Rattle.std.proofs.Common.{◌≡◌, ◌∙◌, ◌^◌, ◌-◌, ◌++◌, ◌∷◌, [], length, Option, Some, None, slice_get, inl, inr, sym, ap, subst, rules, arith, length-append, append_assoc}
use Rattle.std.specs.Prelude.{IfSome, min}
use Rattle.std.specs.Vec.Iter.{into_iter_items}
use mathlib.Core.List.{IsPrefix}
use Rattle.alm_rings.specs.declared.console.Console.{Console}
use Rattle.alm_rings.specs.declared.inbox.Inbox.{Inbox}
use Rattle.alm_rings.specs.declared.outbox.Outbox.{Outbox}
use Rattle.alm_rings.specs.declared.slot_report.SlotReport.{SlotReport}
use Rattle.alm_rings.specs.Ends.{sent_of, received_of, taken_of, released_of}
use Rattle.alm_rings.specs.Placed.{inbox_at, outbox_at, taken_in, released_in, taken_by, released_by}
use Rattle.alm_rings.proofs.Ordered.{push_cases}
use Rattle.alm_rings.proofs.Slots.{place_of}
use Rattle.alm_threads.proofs.Closed.{here, before, others, prefix_length, is_there, there_is}
use Rattle.alm_threads.proofs.Placed.{none_left}
use Rattle.alm_threads.proofs.closing.close_all.Goals as goal

pub close_slot-requires : goal.close_slot-requires
close_slot-requires g c =
    let l = c.loop-console in
    let inv = l.invariant in
    let x = c.in-Some.console in
    let rest = into_iter_items c.next.new.self in
    let order : c.args.consoles.items ≡ l.yielded ++ x ∷ rest = inv.order ∙ ap (λ r. l.yielded ++ r) c.in-Some.ensures.steps.0 in
    let mine : slice_get c.args.consoles.items (length l.yielded) ≡ Some x = ap (λ r. slice_get r (length l.yielded)) order ∙ here l.yielded rest x in
    let fresh = others (λ (k : Console _ _). k.slot) c.args.consoles.items l.yielded rest x c.requires.apart order in
    let inbox = sym (inv.inboxes x.slot fresh) ∙ (ap (λ s. inbox_at s l.inboxes.items) (sym c.slot-slot.ensures) ∙ sym c.in-Some-take_inbox.ensures.inbox) in
    let outbox = sym (inv.outboxes x.slot fresh) ∙ (ap (λ s. outbox_at s l.outboxes.items) (sym c.slot-slot.ensures) ∙ sym c.in-Some-take_outbox.ensures.outbox) in
    let requests = c.requires.tied.requests (length l.yielded) x c.in-Some-take_inbox.inbox mine inbox in
    let replies = c.requires.tied.replies (length l.yielded) x c.in-Some-take_outbox.outbox mine outbox in
    (requests, replies, (place_of (λ (i : Inbox). i.slot) c.args.inboxes.items x.slot c.in-Some-take_inbox.inbox inbox).1.1, (place_of (λ (o : Outbox _ _). o.slot) c.args.outboxes.items x.slot c.in-Some-take_outbox.outbox outbox).1.1)

pub loop-console-preserved : goal.loop-console-preserved
loop-console-preserved g c =
    let l = c.loop-console in
    let inv = l.invariant in
    let x = c.in-Some.console in
    let rest = into_iter_items c.next.new.self in
    let order : c.args.consoles.items ≡ l.yielded ++ x ∷ rest = inv.order ∙ ap (λ r. l.yielded ++ r) c.in-Some.ensures.steps.0 in
    let mine : slice_get c.args.consoles.items (length l.yielded) ≡ Some x = ap (λ r. slice_get r (length l.yielded)) order ∙ here l.yielded rest x in
    let fresh = others (λ (k : Console _ _). k.slot) c.args.consoles.items l.yielded rest x c.requires.apart order in
    let inbox = sym (inv.inboxes x.slot fresh) ∙ (ap (λ s. inbox_at s l.inboxes.items) (sym c.slot-slot.ensures) ∙ sym c.in-Some-take_inbox.ensures.inbox) in
    let outbox = sym (inv.outboxes x.slot fresh) ∙ (ap (λ s. outbox_at s l.outboxes.items) (sym c.slot-slot.ensures) ∙ sym c.in-Some-take_outbox.ensures.outbox) in
    let r = there_is c.close_slot.result c.close_slot.ensures.some in
    let requests = subst (λ (o : Option SlotReport). IfSome o (λ r. (r.sent ≡ length (sent_of x)) × (r.taken ≡ length (taken_of c.in-Some-take_inbox.inbox)))) r.1 c.close_slot.ensures.requests in
    let receipts = subst (λ (o : Option SlotReport). IfSome o (λ r. (r.released ≡ min (length (released_of c.in-Some-take_outbox.outbox)) (2 ^ 64 - 1)) × (r.received ≡ min (length (received_of x)) (2 ^ 64 - 1)))) r.1 c.close_slot.ensures.receipts in
    record {
      order = order ∙ sym (append_assoc l.yielded (x ∷ []) rest);
      count = omega (arith, ap length c.push_reserved.ensures.items, length-append l.reports.items (c.close_slot.result ∷ []), length-append l.yielded (x ∷ []), inv.count);
      room = omega (arith, inv.room, c.push_reserved.ensures.capacity);
      inboxes = λ s none. c.take_inbox.ensures.others s (λ p. none (length l.yielded) x (here l.yielded [] x) (sym (p ∙ c.slot-slot.ensures))) ∙ inv.inboxes s (λ j y at. none j y (before l.yielded (x ∷ []) j y at));
      outboxes = λ s none. c.take_outbox.ensures.others s (λ p. none (length l.yielded) x (here l.yielded [] x) (sym (p ∙ c.slot-slot.ensures))) ∙ inv.outboxes s (λ j y at. none j y (before l.yielded (x ∷ []) j y at));
      closed = λ k y at. elim (push_cases l.yielded x y k at) [
        | inl old ↦ (let was = inv.closed k y old in record {
          taken = was.taken;
          received = was.received;
          report = record {
            report = was.report.report;
            at = ap (λ l. slice_get l k) c.push_reserved.ensures.items ∙ before l.reports.items (c.close_slot.result ∷ []) k (Some was.report.report) was.report.at;
            is = was.report.is;
          };
        })
        | inr new ↦ (let same_sent : sent_of x ≡ sent_of y = ap (λ (z : Console _ _). sent_of z) new.1 in
            let same_received : received_of x ≡ received_of y = ap (λ (z : Console _ _). received_of z) new.1 in
            let same_taken : taken_of c.in-Some-take_inbox.inbox ≡ taken_by y.slot c.args.inboxes.items =
            sym (ap (λ (z : Console _ _). taken_in (inbox_at z.slot c.args.inboxes.items)) (sym new.1) ∙ ap taken_in inbox) in
            let same_released : released_of c.in-Some-take_outbox.outbox ≡ released_by y.slot c.args.outboxes.items =
            sym (ap (λ (z : Console _ _). released_in (outbox_at z.slot c.args.outboxes.items)) (sym new.1) ∙ ap released_in outbox) in
            let taken = subst (λ l. IsPrefix l (sent_of y)) same_taken (subst (λ l. IsPrefix (taken_of c.in-Some-take_inbox.inbox) l) same_sent c.close_slot.ensures.taken) in
            let received = subst (λ l. IsPrefix (received_of y) l) same_released (subst (λ l. IsPrefix l (released_of c.in-Some-take_outbox.outbox)) same_received c.close_slot.ensures.received) in record {
              taken = taken;
              received = received;
              report = record {
                report = r.0;
                at = ap (λ l. slice_get l k) c.push_reserved.ensures.items ∙ (ap (λ n. slice_get (l.reports.items ++ c.close_slot.result ∷ []) n) (new.0 ∙ sym inv.count) ∙ (here l.reports.items [] c.close_slot.result ∙ ap Some r.1));
                is = record {
                  sent_is = requests.0 ∙ ap length same_sent;
                  taken_is = requests.1 ∙ ap length same_taken;
                  released_is = receipts.0 ∙ ap (λ l. min (length l) (2 ^ 64 - 1)) same_released;
                  received_is = receipts.1 ∙ ap (λ l. min (length l) (2 ^ 64 - 1)) same_received;
                  no_more_taken = prefix_length (taken_by y.slot c.args.inboxes.items) (sent_of y) taken;
                  no_more_received = prefix_length (received_of y) (released_by y.slot c.args.outboxes.items) received;
                };
              };
            })
      ];
    }

pub unreachable-requires : goal.unreachable-requires
unreachable-requires g c =
    let l = c.loop-console in
    let inv = l.invariant in
    let x = c.in-Some.console in
    let rest = into_iter_items c.next.new.self in
    let order : c.args.consoles.items ≡ l.yielded ++ x ∷ rest = inv.order ∙ ap (λ r. l.yielded ++ r) c.in-Some.ensures.steps.0 in
    let mine : slice_get c.args.consoles.items (length l.yielded) ≡ Some x = ap (λ r. slice_get r (length l.yielded)) order ∙ here l.yielded rest x in
    let fresh = others (λ (k : Console _ _). k.slot) c.args.consoles.items l.yielded rest x c.requires.apart order in
    let none : inbox_at x.slot c.args.inboxes.items ≡ None = sym (inv.inboxes x.slot fresh) ∙ (ap (λ s. inbox_at s l.inboxes.items) (sym c.slot-slot.ensures) ∙ (sym c.take_inbox.ensures.inbox ∙ search rules)) in
    is_there (inbox_at x.slot c.args.inboxes.items) none (c.requires.tied.has_inbox (length l.yielded) x mine)

pub unreachable-requires-in_default-take_outbox : goal.unreachable-requires-in_default-take_outbox
unreachable-requires-in_default-take_outbox g c =
    let l = c.loop-console in
    let inv = l.invariant in
    let x = c.in-Some.console in
    let rest = into_iter_items c.next.new.self in
    let order : c.args.consoles.items ≡ l.yielded ++ x ∷ rest = inv.order ∙ ap (λ r. l.yielded ++ r) c.in-Some.ensures.steps.0 in
    let mine : slice_get c.args.consoles.items (length l.yielded) ≡ Some x = ap (λ r. slice_get r (length l.yielded)) order ∙ here l.yielded rest x in
    let fresh = others (λ (k : Console _ _). k.slot) c.args.consoles.items l.yielded rest x c.requires.apart order in
    let none : outbox_at x.slot c.args.outboxes.items ≡ None = sym (inv.outboxes x.slot fresh) ∙ (ap (λ s. outbox_at s l.outboxes.items) (sym c.slot-slot.ensures) ∙ (sym c.take_outbox.ensures.outbox ∙ search rules)) in
    is_there (outbox_at x.slot c.args.outboxes.items) none (c.requires.tied.has_outbox (length l.yielded) x mine)

pub returns : goal.returns
returns g c =
    let l = c.loop-console in
    let inv = l.invariant in
    let all : l.yielded ≡ c.args.consoles.items = none_left l.yielded _ c.args.consoles.items (sym inv.order) (omega (arith, c.in-None.ensures.steps.0, l.console-iterator.rest.ok)) in
    record { closed = (inv.count ∙ ap length all, λ k d at. inv.closed k d (ap (λ xs. slice_get xs k) all ∙ at)) }
