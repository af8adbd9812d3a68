-- A history answers the consoles of a run.
use Rattle.std.proofs.Common.{◌≡◌, ◌∙◌, ℕ, List, [], ◌∷◌, Option, Some, None, length, refl, ap, sym, subst}
use Rattle.std.specs.List.{range_with_len}
use mathlib.Core.List.{IsPrefix}
use Rattle.alm_types.specs.declared.entry.Entry.{Entry}
use Rattle.alm_model.specs.Judging.{of_slot, serials_of, wants_of}
use Rattle.alm_flush.specs.Replies.{replies_in, replies_to}
use Rattle.alm_rings.specs.declared.console.Console.{Console}
use Rattle.alm_rings.specs.declared.inbox.Inbox.{Inbox}
use Rattle.alm_rings.specs.declared.outbox.Outbox.{Outbox}
use Rattle.alm_rings.specs.declared.slot_report.SlotReport.{SlotReport}
use Rattle.alm_rings.specs.declared.told.Told.{Ghosts}
use Rattle.alm_rings.specs.Ends.{sent_of, received_of}
use Rattle.alm_rings.specs.Placed.{SameInboxAt, taken_in, taken_by, released_by}
use Rattle.alm_threads.specs.Runs.{AnswersConsole, HasReport, IsSlotClosed}
use Rattle.alm_threads.proofs.Tied.{received_count, replies_count, replies_prefix, wants_count}

-- a slot without an inbox has no entries
pub nobody_asked : (a b : Option Inbox) (es : List Entry) → SameInboxAt a b → a ≡ None → wants_of es ≡ taken_in b → es ≡ []
nobody_asked a b [] same none wants = refl
nobody_asked None None (e ∷ es) same none wants = absurd (cc wants)
nobody_asked None (Some j) (e ∷ es) same none wants = absurd same
nobody_asked (Some i) b (e ∷ es) same none wants = absurd (cc none)

module _ {T : Type 0} {g : Ghosts T} where
  -- what was taken of a closed slot are its entries, what was released to it are their replies
  pub answers_by : (entries told : List Entry) (is : List Inbox) (os : List (Outbox T g)) (reports : List (Option SlotReport)) (k : ℕ) (c : Console T g)
      → wants_of (of_slot c.slot entries) ≡ taken_by c.slot is → serials_of (of_slot c.slot entries) ≡ range_with_len 1 (length (taken_by c.slot is)) → replies_in (released_by c.slot os) ≡ replies_to (of_slot c.slot told)
      → IsSlotClosed is os reports k c → AnswersConsole entries told reports k c
  answers_by entries told is os reports k c wants serials replies closed =
      let taken : length (taken_by c.slot is) ≡ length (of_slot c.slot entries) = ap length (sym wants) ∙ wants_count (of_slot c.slot entries) in
      let released : length (released_by c.slot os) ≡ length (of_slot c.slot told) =
      sym (received_count (released_by c.slot os)) ∙ (ap length replies ∙ replies_count (of_slot c.slot told)) in record {
        serials = serials ∙ ap (λ n. range_with_len 1 n) taken;
        requests = subst (λ l. IsPrefix l (sent_of c)) (sym wants) closed.taken;
        receipts = subst (λ l. IsPrefix (replies_in (received_of c)) l) replies (replies_prefix (received_of c) (released_by c.slot os) closed.received);
        report = subst (λ n. HasReport reports k (length (sent_of c)) (length (of_slot c.slot entries)) n (length (received_of c))) released
            (subst (λ n. HasReport reports k (length (sent_of c)) n (length (released_by c.slot os)) (length (received_of c))) taken closed.report);
      }
