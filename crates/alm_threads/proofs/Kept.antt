-- What steps leave as it is, further steps leave so.
use Rattle.std.proofs.Common.{◌∙◌, List, rules}
use Rattle.alm_board.specs.declared.board.Board
use Rattle.alm_disk.specs.declared.disk.Disk
use Rattle.alm_moments.specs.declared.run_id.RunId
use Rattle.alm_rings.specs.declared.console.Console.{Console}
use Rattle.alm_rings.specs.declared.inbox.Inbox.{Inbox}
use Rattle.alm_rings.specs.declared.seal_ends.SealEnds.{SealEnds}
use Rattle.alm_rings.specs.declared.told.Told
use Rattle.alm_rings.specs.Placed.{inbox_at, outbox_at}
use Rattle.alm_store.specs.declared.store.Store
use Rattle.alm_threads.specs.declared.recorded_flusher.RecordedFlusher.{RecordedFlusher}
use Rattle.alm_threads.specs.Kept.{KeepsEnds, KeepsFlusher}
use Rattle.alm_threads.proofs.Finished.{all_idle_on, all_same_on}
use Rattle.alm_threads.proofs.Serves.{out_trans, same_at_trans}

module _ {K T B J D : Type 0} {k : Store.Ghosts K D} {d : Disk.Ghosts D} {t : Told.Ghosts T} {b : Board.Ghosts B T} {j : RunId.Ghosts J} where
  pub keeps_flusher_on : (x y z : RecordedFlusher K T B J D k d t b j) → KeepsFlusher x y → KeepsFlusher y z → KeepsFlusher x z
  keeps_flusher_on x y z p q =
      let before = p.0 in
      let after = q.0 in
      (search rules, (λ s. out_trans (outbox_at s x.flusher.outboxes.items) (outbox_at s y.flusher.outboxes.items) (outbox_at s z.flusher.outboxes.items) (p.1 s) (q.1 s)), q.2 ∙ p.2, q.3 ∙ p.3)

module _ {T : Type 0} {t : Told.Ghosts T} where
  pub keeps_ends_on : (cs ds es : List (Console T t)) (is js ks : List Inbox) (x y z : SealEnds) → KeepsEnds cs ds is js x y → KeepsEnds ds es js ks y z → KeepsEnds cs es is ks x z
  keeps_ends_on cs ds es is js ks x y z p q =
      let before = p.3 in
      let after = q.3 in
      (all_same_on cs ds es p.0 q.0, all_idle_on cs ds es p.1 q.1, (λ s. same_at_trans (inbox_at s is) (inbox_at s js) (inbox_at s ks) (p.2 s) (q.2 s)), search rules)
