use Rattle.std.proofs.Common.{◌∙◌, refl, rules}
use Rattle.alm_rings.specs.Placed.{inbox_at, outbox_at}
use Rattle.alm_rings.proofs.Slots.{same_inbox_at, same_outbox_at}
use Rattle.alm_threads.proofs.Finished.{all_idle_self, all_same_self, have_still}
use Rattle.alm_threads.proofs.Kept.{keeps_ends_on, keeps_flusher_on}
use Rattle.alm_threads.proofs.finishing.finish.Goals as goal

pub loop-init : goal.loop-init
loop-init g c = record {
  ends = (all_same_self c.args.consoles.now, all_idle_self c.args.consoles.now, (λ s. same_inbox_at (inbox_at s c.args.sequencer.now.inboxes.items)), search rules);
  live = refl;
  kept = (search rules, (λ s. same_outbox_at (outbox_at s c.args.flusher.now.flusher.outboxes.items)), refl, refl);
  honest = ((λ h. h), (λ h. h));
}

pub finish_some-requires-clause-tied : goal.finish_some-requires-clause-tied
finish_some-requires-clause-tied g c =
    have_still c.args.consoles.now c.loop.consoles c.args.sequencer.now.inboxes.items c.loop.sequencer.inboxes.items c.loop.invariant.ends.0 c.loop.invariant.ends.2 c.requires.tied

pub returns-then-finish_some-clause-ends : goal.returns-then-finish_some-clause-ends
returns-then-finish_some-clause-ends g c =
    let s = c.args.sequencer.now in
    let t = c.loop.sequencer in
    let u = c.finish_some.new.sequencer in
    keeps_ends_on c.args.consoles.now c.loop.consoles c.finish_some.new.consoles s.inboxes.items t.inboxes.items u.inboxes.items s.ends t.ends u.ends c.loop.invariant.ends c.finish_some.ensures.ends

pub returns-then-finish_some-clause-kept : goal.returns-then-finish_some-clause-kept
returns-then-finish_some-clause-kept g c = keeps_flusher_on c.args.flusher.now c.loop.flusher c.finish_some.new.flusher c.loop.invariant.kept c.finish_some.ensures.kept

pub loop-preserved : goal.loop-preserved
loop-preserved g c =
    let l = c.loop.invariant in
    let e = c.finish_some.ensures in
    let s = c.args.sequencer.now in
    let t = c.loop.sequencer in
    let u = c.finish_some.new.sequencer in
    record {
      ends = keeps_ends_on c.args.consoles.now c.loop.consoles c.finish_some.new.consoles s.inboxes.items t.inboxes.items u.inboxes.items s.ends t.ends u.ends l.ends e.ends;
      live = e.live ∙ l.live;
      kept = keeps_flusher_on c.args.flusher.now c.loop.flusher c.finish_some.new.flusher l.kept e.kept;
      honest = ((λ h. e.honest.0 (l.honest.0 h)), (λ h. l.honest.1 (e.honest.1 h)));
    }
