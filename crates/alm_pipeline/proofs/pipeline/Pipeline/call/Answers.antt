use Rattle.std.proofs.Common.{refl, inl, inr, ◌≡◌, ◌<◌, ◌+◌, ◌∙◌, ◌++◌, length, ap, sym, subst, append_assoc, arith}
use Rattle.alm_model.specs.Judging.{accepted_of, entries_in}
use Rattle.alm_rings.specs.Placed.{released_by}
use Rattle.alm_rings.specs.Batches.{fetched_of, given_of}
use Rattle.alm_flush.specs.declared.held.Held as H
use Rattle.alm_flush.specs.Advances.{IsSure, Within}
use Rattle.alm_flush.specs.HeldBatch.{stored_of, published_entries, to_commit}
use Rattle.alm_flush.proofs.HeldLaws.{accepted_more}
use Rattle.alm_pipeline.specs.World.{Held, IsHeld, entries_at, stores}
use Rattle.alm_pipeline.specs.Headline.{Sight}
use Rattle.alm_flush.specs.Flushes.{IsGivenUp}
use Rattle.alm_pipeline.specs.Matches.{stage_of, entries_of, notes_of, batch_held_at, sight_in}
use Rattle.alm_pipeline.proofs.Calls.{committed_batch, failed_batch, fails_with, goes_with, may_call, may_not_call, no_batch, sure_working}
use Rattle.alm_pipeline.proofs.Moved.{opened_as}
use Rattle.alm_pipeline.proofs.Paced.{committed_in_pace, failed_in_pace, held_some, more_in_pace, same_in_pace}
use Rattle.alm_disk.specs.Failures.{HasFailed}
use Rattle.alm_store.specs.Calls.{IsCall}
use Rattle.alm_store.specs.Advancing.{IsCalls}
use Rattle.alm_pipeline.proofs.Ready.{fetched_next}
use Rattle.alm_pipeline.proofs.pipeline.Pipeline.call.Goals as goal

pub returns-in-Committed-clause-fits : goal.returns-in-Committed-clause-fits
returns-in-Committed-clause-fits g c = λ w m.
    let p = c.tell_batches.new.self in
    let o = c.tell_batches.ensures.«open» w m in
    let f = o.fits in
    let new = c.advance.new.self in
    let same = c.in-Committed.ensures.same in
    let held = committed_batch (g.K.Store.state p.flusher.store).phase p.flusher.held new.held c.in-Committed.ensures.held in
    let items = held.0.entries in
    let before = entries_in (fetched_of p.flusher.before.value) in
    let stage : w.stage ≡ Held items = sym f.batches.held ∙ ap stage_of held.1 in
    opened_as _ _ _ (ap (stores w) (sym stage)) (record {
      opened = o.opened;
      going = c.in-Committed.ensures.going o.going (λ e. absurd (cc e));
      trying = λ x. subst IsGivenUp held.2 x;
      fits = record {
        slots = record { requests = f.slots.requests; judged = f.slots.judged; notes = λ s. ap (λ x. notes_of (released_by s x)) (ap (λ v. v.items) same.1) ∙ f.slots.notes s; receipts = f.slots.receipts; few = f.slots.few };
        batches = record {
          entries = f.batches.entries;
          waiting = f.batches.waiting ∙ ap (λ e. entries_of (fetched_of e) ++ w.sealed) (sym same.3);
          held = ap stage_of held.2;
          spared = f.batches.spared ∙ omega (arith, ap (λ e. length (given_of e)) same.3);
          eight = omega (arith, f.batches.eight, ap batch_held_at stage);
        };
        lists = record {
          opened = f.lists.opened;
          judged_from = f.lists.judged_from;
          stored_from = ap (λ b. b.base.value) same.0 ∙ f.lists.stored_from;
          all = f.lists.all;
          kept = ap (λ l. l ++ accepted_of items) (f.lists.kept ∙ ap (λ h. f.lists.opened ++ accepted_of (before ++ stored_of h)) held.1)
              ∙ (append_assoc f.lists.opened _ (accepted_of items) ∙ (ap (λ l. f.lists.opened ++ l) (accepted_more before items)
              ∙ (ap (λ h. f.lists.opened ++ accepted_of (before ++ stored_of h)) (sym held.2) ∙ ap (λ e. f.lists.opened ++ accepted_of (entries_in (fetched_of e) ++ stored_of new.held)) (sym same.2))));
          shown = f.lists.shown ∙ (ap (λ h. f.lists.opened ++ accepted_of (before ++ published_entries h)) held.1 ∙ (ap (λ h. f.lists.opened ++ accepted_of (before ++ published_entries h)) (sym held.2)
              ∙ ap (λ e. f.lists.opened ++ accepted_of (entries_in (fetched_of e) ++ published_entries new.held)) (sym same.2)));
          enough = f.lists.enough;
        };
      };
    })

pub returns-in-More-clause-moves : goal.returns-in-More-clause-moves
returns-in-More-clause-moves g c = λ honest w m refused.
    let p = c.tell_batches.new.self in
    let same = c.tell_batches.ensures.store in
    let is = subst (λ k. g.K.Device.Disk.honest (g.K.Store.disk k)) (sym same) honest in
    let o = c.tell_batches.ensures.«open» w m in
    let phase = (g.K.Store.state p.flusher.store).phase in (
      may_call w (sight_in refused c.args.self.now) p.flusher.held phase o.opened o.fits.batches.held (ap (λ k. (g.K.Store.state k).phase) same) (goes_with phase p.flusher.held c.advance.new.self.held c.in-More.ensures.held),
      subst (λ s. IsCall (g.K.Device.Disk.state (g.K.Store.disk s)) (g.K.Device.Disk.state (g.K.Store.disk c.advance.new.self.store))) same (c.in-More.ensures.device.more is refl),
      c.in-More.ensures.device.sound (λ e. absurd (cc e)) ∙ ap (λ k. g.K.Device.Disk.failures (g.K.Store.disk k)) same,
      c.in-More.ensures.going o.going (λ e. absurd (cc e)),
      refl,
    )

pub returns-in-Committed-clause-moves : goal.returns-in-Committed-clause-moves
returns-in-Committed-clause-moves g c = λ honest w m refused.
    let p = c.tell_batches.new.self in
    let new = c.advance.new.self in
    let same = c.tell_batches.ensures.store in
    let is = subst (λ k. g.K.Device.Disk.honest (g.K.Store.disk k)) (sym same) honest in
    let o = c.tell_batches.ensures.«open» w m in
    let phase = (g.K.Store.state p.flusher.store).phase in
    let held = committed_batch phase p.flusher.held new.held c.in-Committed.ensures.held in
    let stage : w.stage ≡ Held held.0.entries = sym o.fits.batches.held ∙ ap stage_of held.1 in
    let actions : to_commit p.flusher.held ≡ accepted_of (entries_at w.stage) = ap to_commit held.1 ∙ ap (λ s. accepted_of (entries_at s)) (sym stage) in (
      λ some. subst (λ s. IsCall (g.K.Device.Disk.state (g.K.Store.disk s)) (g.K.Device.Disk.state (g.K.Store.disk new.store))) same (c.in-Committed.ensures.device.one is (subst (λ l. 0 < length l) (sym actions) some) (λ e. absurd (cc e))),
      λ none. ap g.K.Device.Disk.state (c.in-Committed.ensures.device.none (actions ∙ none) refl) ∙ ap (λ k. g.K.Device.Disk.state (g.K.Store.disk k)) same,
      c.in-Committed.ensures.device.sound (λ e. absurd (cc e)) ∙ ap (λ k. g.K.Device.Disk.failures (g.K.Store.disk k)) same,
      c.in-Committed.ensures.at_rest refl,
      c.in-Committed.ensures.going o.going (λ e. absurd (cc e)),
      refl,
    )

pub returns-in-Nothing-clause-moves : goal.returns-in-Nothing-clause-moves
returns-in-Nothing-clause-moves g c = λ honest w m refused.
    let p = c.tell_batches.new.self in
    let same = c.tell_batches.ensures.store in
    let o = c.tell_batches.ensures.«open» w m in
    let sees = λ (k : _). let at : Sight = record { state = g.K.Device.Disk.state (g.K.Store.disk k); failures = g.K.Device.Disk.failures (g.K.Store.disk k); phase = (g.K.Store.state k).phase; refused = refused } in at in (
      may_not_call w (sight_in refused c.args.self.now) p.flusher.held c.advance.new.self.held (g.K.Store.state p.flusher.store).phase o.fits.batches.held (ap (λ k. (g.K.Store.state k).phase) same) c.in-Nothing.ensures.held,
      ap sees (c.in-Nothing.ensures.nothing.0 refl ∙ same),
    )

pub returns-in-Failed-clause-moves : goal.returns-in-Failed-clause-moves
returns-in-Failed-clause-moves g c = λ honest w m refused.
    let s = g.K.Store in
    let p = c.tell_batches.new.self in
    let h = p.flusher.held in
    let new = c.advance.new.self in
    let same = c.tell_batches.ensures.store in
    let is = subst (λ k. g.K.Device.Disk.honest (s.disk k)) (sym same) honest in
    let o = c.tell_batches.ensures.«open» w m in
    let phase = (s.state p.flusher.store).phase in
    let kept = c.keeper.ensures.keeper in
    let failed = failed_batch phase h new.held o.going o.trying c.in-Failed.ensures.held in (
      may_call w (sight_in refused c.args.self.now) h phase o.opened o.fits.batches.held (ap (λ k. (s.state k).phase) same) (fails_with phase h new.held o.going p.flusher.idle c.in-Failed.ensures.held),
      subst (λ k. IsCalls (g.K.Device.Disk.state (s.disk k)) (g.K.Device.Disk.state (s.disk new.store))) same (c.in-Failed.ensures.device.call is),
      (λ working. subst (λ k. HasFailed (g.K.Device.Disk.failures (s.disk k)) (g.K.Device.Disk.failures (s.disk new.store))) same (elim failed [
        | inl f ↦ c.in-Failed.ensures.causes.sure refl (sure_working phase (s.takes p.flusher.store (to_commit h)) o.going (λ e. working (sym (ap (λ k. (s.state k).phase) same) ∙ e))) (fetched_next p f.0 f.1 c.tell_batches.ensures.knows)
        | inr f ↦ c.in-Failed.ensures.broken refl o.going f.0
      ])),
      (λ left. subst (λ k. HasFailed (g.K.Device.Disk.failures (s.disk k)) (g.K.Device.Disk.failures (s.disk new.store))) same (elim failed [
        | inl f ↦ c.in-Failed.ensures.causes.cause refl o.going (λ last. left (subst (λ k. s.spent (g.K.Device.Disk.state (s.disk k))) (kept ∙ same) (c.images.ensures.exhausted (subst (λ k. g.K.Device.Disk.honest (s.disk k)) (sym kept) is) (subst s.exhausted (sym kept) last)))) (fetched_next p f.0 f.1 c.tell_batches.ensures.knows)
        | inr f ↦ c.in-Failed.ensures.broken refl o.going f.0
      ])),
      refl,
    )

pub returns-in-Failed-clause-sure : goal.returns-in-Failed-clause-sure
returns-in-Failed-clause-sure g c = λ _ surely w m.
    let s = g.K.Store in
    let p = c.tell_batches.new.self in
    let t = c.tell_batches.ensures in
    let o = t.«open» w m in
    let new = c.advance.new.self in
    let failed = failed_batch (s.state p.flusher.store).phase p.flusher.held new.held o.going o.trying c.in-Failed.ensures.held in
    subst (λ k. HasFailed (g.K.Device.Disk.failures (s.disk k)) (g.K.Device.Disk.failures (s.disk new.store))) t.store (elim failed [
      | inl f ↦ c.in-Failed.ensures.causes.sure refl (subst (λ (x : H.Held). IsSure (s.state p.flusher.store).phase (s.takes p.flusher.store (to_commit x))) (sym t.same.3)
          (subst (λ k. IsSure (s.state k).phase (s.takes k (to_commit c.args.self.now.flusher.held))) (sym t.store) surely)) (fetched_next p f.0 f.1 t.knows)
      | inr f ↦ c.in-Failed.ensures.broken refl o.going f.0
    ])

pub returns-in-Failed-clause-late : goal.returns-in-Failed-clause-late
returns-in-Failed-clause-late g c = λ _ left w m.
    let p = c.tell_batches.new.self in
    let same = c.tell_batches.ensures.store in
    let o = c.tell_batches.ensures.«open» w m in
    let failed = failed_batch (g.K.Store.state p.flusher.store).phase p.flusher.held c.advance.new.self.held o.going o.trying c.in-Failed.ensures.held in
    subst (λ s. HasFailed (g.K.Device.Disk.failures (g.K.Store.disk s)) (g.K.Device.Disk.failures (g.K.Store.disk c.advance.new.self.store))) same (elim failed [
      | inl f ↦ c.in-Failed.ensures.causes.cause refl o.going (λ last. left (c.in-Failed.ensures.device.exhausted last)) (fetched_next p f.0 f.1 c.tell_batches.ensures.knows)
      | inr f ↦ c.in-Failed.ensures.broken refl o.going f.0
    ])

pub returns-in-More-clause-ends : goal.returns-in-More-clause-ends
returns-in-More-clause-ends g c = λ m _ some within.
    let s = g.K.Store in
    let t = c.tell_batches.ensures in
    let h = c.args.self.now.flusher.held in
    c.in-More.ensures.ends m refl (subst (λ (x : H.Held). 0 < length (to_commit x)) (sym t.same.3) some)
    (subst (λ (x : H.Held). Within (m + 1) (s.state c.tell_batches.new.self.flusher.store).phase (s.state c.tell_batches.new.self.flusher.store).left (s.takes c.tell_batches.new.self.flusher.store (to_commit x)) (s.will_take c.tell_batches.new.self.flusher.store (to_commit x)) (length (to_commit x))) (sym t.same.3)
    (subst (λ k. Within (m + 1) (s.state k).phase (s.state k).left (s.takes k (to_commit h)) (s.will_take k (to_commit h)) (length (to_commit h))) (sym t.store) within))

pub returns-in-More-clause-paces : goal.returns-in-More-clause-paces
returns-in-More-clause-paces g c = λ w more m e.
    let p = c.tell_batches.new.self in
    let o = c.tell_batches.ensures.«open» w m in
    more_in_pace w more c.args.self.now _
    (λ held k within.
    let some = held_some (g.K.Store.state p.flusher.store).phase p.flusher.held c.advance.new.self.held o.trying (subst IsHeld (sym o.fits.batches.held) held) c.in-More.ensures.held in
    returns-in-More-clause-ends g c k refl (subst (λ (x : H.Held). 0 < length (to_commit x)) c.tell_batches.ensures.same.3 some) within)
    e

pub returns-in-Committed-clause-paces : goal.returns-in-Committed-clause-paces
returns-in-Committed-clause-paces g c = λ w more m e. committed_in_pace w more c.args.self.now _ e

pub returns-in-Failed-clause-paces : goal.returns-in-Failed-clause-paces
returns-in-Failed-clause-paces g c = λ w more m e. failed_in_pace w more _

pub returns-in-Nothing-clause-paces : goal.returns-in-Nothing-clause-paces
returns-in-Nothing-clause-paces g c = λ w more m e.
    let p = c.tell_batches.new.self in
    let held = no_batch (g.K.Store.state p.flusher.store).phase p.flusher.held c.advance.new.self.held c.in-Nothing.ensures.held in
    (more, omega arith, same_in_pace w more c.args.self.now _ (c.in-Nothing.ensures.nothing.0 refl ∙ c.tell_batches.ensures.store) (held ∙ c.tell_batches.ensures.same.3) e)
