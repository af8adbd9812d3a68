use Rattle.std.proofs.Common.{◌≡◌, ◌<◌, ◌∙◌, inl, inr, Some, refl, sym, subst, arith}
use Rattle.std.specs.Prelude.{IsSome}
use Rattle.std.proofs.lemmas.Option.{slice_get_read, slice_get_within}
use Rattle.rtrb.specs.Ring.{IsPair}
use Rattle.alm_rings.specs.declared.console.Console.{Console}
use Rattle.alm_rings.specs.declared.inbox.Inbox.{Inbox}
use Rattle.alm_rings.specs.Ends.{SameConsole, sent_of, received_of}
use Rattle.alm_rings.specs.Placed.{inbox_at}
use Rattle.alm_rings.proofs.Slots.{same_inbox_at}
use Rattle.alm_threads.specs.Finished.{IsTaken}
use Rattle.alm_threads.proofs.Causes.{clash}
use Rattle.alm_threads.proofs.Finished.{all_idle_self, all_idle_set, all_same_length, all_same_self, all_same_set, get_set, have_still}
use Rattle.alm_threads.proofs.Serves.{same_at_trans}
use Rattle.alm_threads.proofs.finishing.take_each.Goals.{then-take_one, else-take_one}
use Rattle.alm_threads.proofs.finishing.take_each.Goals as goal

pub loop-console-init : goal.loop-console-init
loop-console-init g c = record {
  consoles = all_same_self c.args.consoles.now;
  idle = all_idle_self c.args.consoles.now;
  inboxes = λ s. same_inbox_at (inbox_at s c.args.sequencer.now.inboxes.items);
  ends = refl;
  base = refl;
  none = λ fresh k d less at. absurd (omega (arith, less));
}

pub take_one-requires-clause-there : goal.take_one-requires-clause-there
take_one-requires-clause-there g c =
    let l = c.loop-console in
    let have = have_still c.args.consoles.now l.consoles c.args.sequencer.now.inboxes.items l.sequencer.inboxes.items l.invariant.consoles l.invariant.inboxes c.requires.tied in
    let at = slice_get_read l.consoles _ l.console-index _ (all_same_length c.args.consoles.now l.consoles l.invariant.consoles) c.loop-console-test.true c.console-item.is in
    subst (λ (x : Console _ _). IsSome (inbox_at x.slot l.sequencer.inboxes.items)) c.console-item.is (have.has_inbox l.console-index c.console-item.result at)

pub take_one-requires-clause-pair : goal.take_one-requires-clause-pair
take_one-requires-clause-pair g c =
    let l = c.loop-console in
    let have = have_still c.args.consoles.now l.consoles c.args.sequencer.now.inboxes.items l.sequencer.inboxes.items l.invariant.consoles l.invariant.inboxes c.requires.tied in
    let at = slice_get_read l.consoles _ l.console-index _ (all_same_length c.args.consoles.now l.consoles l.invariant.consoles) c.loop-console-test.true c.console-item.is in
    subst (λ (x : Console _ _). (i : Inbox) → inbox_at x.slot l.sequencer.inboxes.items ≡ Some i → IsPair x.requests i.requests) c.console-item.is (λ i its. have.requests l.console-index c.console-item.result i at its)

pub loop-console-preserved : goal.loop-console-preserved
loop-console-preserved g c =
    let l = c.loop-console in
    let e = c.take_one.ensures in
    let new = c.take_one.new.console in
    let boxes = c.take_one.new.sequencer.inboxes.items in
    let at = slice_get_read l.consoles _ l.console-index _ (all_same_length c.args.consoles.now l.consoles l.invariant.consoles) c.loop-console-test.true c.console-item.is in
    record {
      consoles = all_same_set c.args.consoles.now l.consoles l.console-index c.console-item.result new l.invariant.consoles at (subst (λ (x : Console _ _). SameConsole x new) (sym c.console-item.is) e.console);
      idle = all_idle_set c.args.consoles.now l.consoles l.console-index c.console-item.result new l.invariant.idle at
          (subst (λ (x : Console _ _). sent_of new ≡ sent_of x) (sym c.console-item.is) e.idle.0)
          (subst (λ (x : Console _ _). received_of new ≡ received_of x) (sym c.console-item.is) e.idle.1);
      inboxes = λ s. same_at_trans (inbox_at s c.args.sequencer.now.inboxes.items) (inbox_at s l.sequencer.inboxes.items) (inbox_at s boxes) (l.invariant.inboxes s) (e.inboxes s);
      ends = e.ends ∙ l.invariant.ends;
      base = e.base ∙ l.invariant.base;
      none = λ fresh k d less its. elim c.if-take_one.branch [
        | then-take_one w ↦ clash c.if-take_one.found w.found-is fresh
        | else-take_one w ↦
            let none = e.none w.if-take_one.false in
            elim (get_set l.consoles l.console-index k new d its) [
              | inl here ↦ subst (λ (x : Console _ _). IsTaken x boxes) (sym here.1) none.0
              | inr there ↦
                  let old = l.invariant.none (sym w.found-is ∙ fresh) k d (omega (arith, less, there.0)) there.1 in
                  (none.1 d.slot ∙ old.0, old.1)
            ]
      ];
    }

pub returns-clause-none : goal.returns-clause-none
returns-clause-none g c = λ fresh k d at.
    let l = c.loop-console in
    let less : k < l.console-index = omega (arith, slice_get_within l.consoles k d at, all_same_length c.args.consoles.now l.consoles l.invariant.consoles, c.loop-console-test.false) in
    l.invariant.none fresh k d less at
