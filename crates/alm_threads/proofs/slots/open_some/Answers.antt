use Rattle.std.proofs.Common.{rules, ◌≡◌, ◌∷◌, ℕ, [], length, slice_get, Some, inl, inr, ap, sym, subst, ◌∙◌, arith, length-append, refl}
use Rattle.std.specs.Prelude.{is_some}
use Rattle.std.proofs.lemmas.Option.{slice_get_within, slice_get_read, same_Some}
use Rattle.rtrb.specs.Ring.{IsPair}
use Rattle.alm_rings.specs.declared.console.Console.{Console}
use Rattle.alm_rings.specs.declared.inbox.Inbox.{Inbox}
use Rattle.alm_rings.specs.declared.outbox.Outbox.{Outbox}
use Rattle.alm_rings.specs.Ends.{received_of, released_of, sent_of, taken_of}
use Rattle.alm_rings.specs.Placed.{taken_in, released_in, inbox_at, outbox_at}
use Rattle.alm_rings.proofs.Ordered.{push_cases, opt_cases}
use Rattle.alm_rings.proofs.Slots.{place_of}
use Rattle.alm_threads.proofs.Opened.{map_is, apart_is, at_place}
use Rattle.alm_threads.proofs.slots.open_some.Goals as goal

pub loop-slot-preserved : goal.loop-slot-preserved
loop-slot-preserved g c =
    let l = c.loop-slot in
    let inv = l.invariant in
    let e = c.in_ok-console in
    let cs = c.push_reserved.ensures.items in
    let is' = c.push_reserved-in-loop-slot.ensures.items in
    let os = c.push_reserved-in-loop-slot-2.ensures.items in
    let item = slice_get_read c.args.slots.now _ l.slot-index _ refl c.loop-slot-test.true c.slot-item.is in
    let at_c = λ (j : ℕ) (k : Console _ _) (is : slice_get c.push_reserved.new.self.items j ≡ Some k). push_cases l.consoles.items e.console k j (ap (λ x. slice_get x j) (sym cs) ∙ is) in
    let at_i = λ (j : ℕ) (k : Inbox) (is : slice_get c.push_reserved-in-loop-slot.new.self.items j ≡ Some k). push_cases l.inboxes.items e.inbox k j (ap (λ x. slice_get x j) (sym is') ∙ is) in
    let at_o = λ (j : ℕ) (k : Outbox _ _) (is : slice_get c.push_reserved-in-loop-slot-2.new.self.items j ≡ Some k). push_cases l.outboxes.items e.outbox k j (ap (λ x. slice_get x j) (sym os) ∙ is) in
    record {
      consoles = omega (arith, ap length cs, length-append l.consoles.items (e.console ∷ []), inv.consoles);
      inboxes = omega (arith, ap length is', length-append l.inboxes.items (e.inbox ∷ []), inv.inboxes);
      outboxes = omega (arith, ap length os, length-append l.outboxes.items (e.outbox ∷ []), inv.outboxes);
      room = (omega (arith, inv.room.0, c.push_reserved.ensures.capacity), omega (arith, inv.room.1, c.push_reserved-in-loop-slot.ensures.capacity), omega (arith, inv.room.2, c.push_reserved-in-loop-slot-2.ensures.capacity));
      con_order = λ j k is. elim (at_c j k is) [
        | inl old ↦ inv.con_order j k old
        | inr new ↦ subst (λ (x : Console _ _). slice_get c.args.slots.now j ≡ Some x.slot) new.1 (ap (slice_get c.args.slots.now) (new.0 ∙ inv.consoles) ∙ (item ∙ ap Some (sym e.ensures.slot.0)))
      ];
      new = λ j k is. elim (at_c j k is) [
        | inl old ↦ inv.new j k old
        | inr new ↦ subst (λ (x : Console _ _). (sent_of x ≡ []) × (received_of x ≡ [])) new.1 (e.ensures.new.0, e.ensures.new.1)
      ];
      in_order = λ j k is. elim (at_i j k is) [
        | inl old ↦ inv.in_order j k old
        | inr new ↦ subst (λ (x : Inbox). (slice_get c.args.slots.now j ≡ Some x.slot) × (taken_of x ≡ [])) new.1 (ap (slice_get c.args.slots.now) (new.0 ∙ inv.inboxes) ∙ (item ∙ ap Some (sym e.ensures.slot.1)), e.ensures.new.2)
      ];
      out_order = λ j k is. elim (at_o j k is) [
        | inl old ↦ inv.out_order j k old
        | inr new ↦ subst (λ (x : Outbox _ _). (slice_get c.args.slots.now j ≡ Some x.slot) × (released_of x ≡ [])) new.1 (ap (slice_get c.args.slots.now) (new.0 ∙ inv.outboxes) ∙ (item ∙ ap Some (sym e.ensures.slot.2)), e.ensures.new.3)
      ];
      requests = λ j k i here there. elim (at_c j k here) [
        | inl old ↦ elim (at_i j i there) [
          | inl old' ↦ inv.requests j k i old old'
          | inr new' ↦ absurd (let less = slice_get_within l.consoles.items j k old in omega (arith, less, new'.0, inv.consoles, inv.inboxes))
        ]
        | inr new ↦ elim (at_i j i there) [
          | inl old' ↦ absurd (let less = slice_get_within l.inboxes.items j i old' in omega (arith, less, new.0, inv.consoles, inv.inboxes))
          | inr new' ↦ subst (λ (x : Console _ _). IsPair x.requests i.requests) new.1 (subst (λ (x : Inbox). IsPair e.console.requests x.requests) new'.1 e.ensures.ends.0)
        ]
      ];
      replies = λ j k o here there. elim (at_c j k here) [
        | inl old ↦ elim (at_o j o there) [
          | inl old' ↦ inv.replies j k o old old'
          | inr new' ↦ absurd (let less = slice_get_within l.consoles.items j k old in omega (arith, less, new'.0, inv.consoles, inv.outboxes))
        ]
        | inr new ↦ elim (at_o j o there) [
          | inl old' ↦ absurd (let less = slice_get_within l.outboxes.items j o old' in omega (arith, less, new.0, inv.consoles, inv.outboxes))
          | inr new' ↦ subst (λ (x : Console _ _). IsPair o.replies x.replies) new.1 (subst (λ (x : Outbox _ _). IsPair x.replies e.console.replies) new'.1 e.ensures.ends.1)
        ]
      ];
    }

pub returns-clause-order : goal.returns-clause-order
returns-clause-order g c =
    let inv = c.loop-slot.invariant in
    let all : length c.loop-slot.consoles.items ≡ length c.args.slots.now = search rules in
    map_is (λ (k : Console _ _). k.slot) c.loop-slot.consoles.items c.args.slots.now all inv.con_order

pub returns-clause-new : goal.returns-clause-new
returns-clause-new g c =
    let l = c.loop-slot in
    let inv = l.invariant in
    record {
      inboxes_apart = apart_is (λ (i : Inbox). i.slot) l.inboxes.items c.args.slots.now c.requires (λ j i at. (inv.in_order j i at).0);
      outboxes_apart = apart_is (λ (o : Outbox _ _). o.slot) l.outboxes.items c.args.slots.now c.requires (λ j o at. (inv.out_order j o at).0);
      taken = λ s. elim (opt_cases (inbox_at s l.inboxes.items)) [
        | inl none ↦ ap taken_in none
        | inr there ↦ (let at = place_of (λ (i : Inbox). i.slot) l.inboxes.items s there.0 there.1 in ap taken_in there.1 ∙ (inv.in_order at.0 there.0 at.1.0).1)
      ];
      released = λ s. elim (opt_cases (outbox_at s l.outboxes.items)) [
        | inl none ↦ ap released_in none
        | inr there ↦ (let at = place_of (λ (o : Outbox _ _). o.slot) l.outboxes.items s there.0 there.1 in ap released_in there.1 ∙ (inv.out_order at.0 there.0 at.1.0).1)
      ];
    }

pub returns-clause-tied : goal.returns-clause-tied
returns-clause-tied g c =
    let l = c.loop-slot in
    let inv = l.invariant in
    let inbox = λ (k : ℕ) (x : Console _ _) (at : slice_get l.consoles.items k ≡ Some x). at_place (λ (i : Inbox). i.slot) l.inboxes.items c.args.slots.now k x.slot c.requires (λ j i here. (inv.in_order j i here).0) (inv.con_order k x at) (omega (arith, slice_get_within l.consoles.items k x at, inv.consoles, inv.inboxes)) in
    let outbox = λ (k : ℕ) (x : Console _ _) (at : slice_get l.consoles.items k ≡ Some x). at_place (λ (o : Outbox _ _). o.slot) l.outboxes.items c.args.slots.now k x.slot c.requires (λ j o here. (inv.out_order j o here).0) (inv.con_order k x at) (omega (arith, slice_get_within l.consoles.items k x at, inv.consoles, inv.outboxes)) in
    record {
      has_inbox = λ k x at. ap is_some (inbox k x at).1.1;
      has_outbox = λ k x at. ap is_some (outbox k x at).1.1;
      requests = λ k x i at there. (let e = inbox k x at in subst (λ (i : Inbox). IsPair x.requests i.requests) (same_Some e.0 i (sym e.1.1 ∙ there)) (inv.requests k x e.0 at e.1.0));
      replies = λ k x o at there. (let e = outbox k x at in subst (λ (o : Outbox _ _). IsPair o.replies x.replies) (same_Some e.0 o (sym e.1.1 ∙ there)) (inv.replies k x e.0 at e.1.0));
    }

pub returns-clause-only : goal.returns-clause-only
returns-clause-only g c =
    let l = c.loop-slot in
    λ s none. elim (opt_cases (inbox_at s l.inboxes.items)) [
      | inl free ↦ free
      | inr there ↦ (let at = place_of (λ (i : Inbox). i.slot) l.inboxes.items s there.0 there.1 in
          absurd (none at.0 (subst (λ n. slice_get c.args.slots.now at.0 ≡ Some n) at.1.1 (l.invariant.in_order at.0 there.0 at.1.0).0)))
    ]
