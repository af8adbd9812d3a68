-- What the threads returned is tied as before, and is one run.
use Rattle.std.proofs.Common.{◌≡◌, ◌∙◌, ◌++◌, ℕ, zero, suc, List, [], ◌∷◌, length, map, Option, Some, None, slice_get, refl, sym, ap, subst, rules, append_assoc}
use Rattle.std.specs.Prelude.{IsSome}
use Rattle.std.proofs.lemmas.Option.{none-some, same_Some}
use mathlib.Core.List.{IsPrefix}
use Rattle.rtrb.specs.Ring.{IsPair}
use Rattle.alm_types.specs.Batches.{Judged as Batch}
use Rattle.alm_types.specs.declared.entry.Entry.{Entry}
use Rattle.alm_model.specs.Judging.{entries_in, wants_of}
use Rattle.alm_model.proofs.Legal.{entries_append}
use Rattle.alm_rings.specs.declared.console.Console.{Console}
use Rattle.alm_rings.specs.declared.inbox.Inbox.{Inbox}
use Rattle.alm_rings.specs.declared.outbox.Outbox.{Outbox}
use Rattle.alm_rings.specs.declared.receipt.Receipt.{Receipt}
use Rattle.alm_rings.specs.declared.told.Told.{Ghosts}
use Rattle.alm_rings.specs.Ends.{SameConsole, SameInbox, SameOutbox}
use Rattle.alm_rings.specs.Placed.{AreApart, inbox_at, outbox_at, SameInboxAt, SameOutboxAt}
use Rattle.alm_flush.specs.Replies.{replies_in, replies_to}
use Rattle.alm_threads.specs.Same.{AllSame}
use Rattle.alm_threads.proofs.Serves.{some_still}
use Rattle.alm_threads.specs.Slots.{AreTied}

-- at the place of a number in a list of numbers is its element
pub stands_at : {A : Type 0} (number : A → ℕ) (xs : List A) (numbers : List ℕ) (k s : ℕ) → map number xs ≡ numbers → slice_get numbers k ≡ Some s → (x : A) × ((slice_get xs k ≡ Some x) × (number x ≡ s))
stands_at number [] numbers k s is at = absurd (none-some s (ap (λ l. slice_get l k) is ∙ at))
stands_at number (x ∷ xs) numbers zero s is at = (x, (refl, same_Some (number x) s (ap (λ l. slice_get l 0) is ∙ at)))
stands_at number (x ∷ xs) numbers (suc k) s is at = stands_at number xs (map number xs) k s refl (ap (λ l. slice_get l (suc k)) is ∙ at)

pub numbered : {A : Type 0} (number : A → ℕ) (xs : List A) (k : ℕ) (x : A) → slice_get xs k ≡ Some x → slice_get (map number xs) k ≡ Some (number x)
numbered number [] k x at = absurd (none-some x at)
numbered number (y ∷ xs) zero x at = ap (λ z. Some (number z)) (same_Some y x at)
numbered number (y ∷ xs) (suc k) x at = numbered number xs k x at

pub apart_by : {A : Type 0} (number : A → ℕ) (xs : List A) (numbers : List ℕ) → map number xs ≡ numbers → AreApart (λ s. s) numbers → AreApart number xs
apart_by number xs numbers is apart = λ j k d e p q same. apart j k (number d) (number e) (ap (λ l. slice_get l j) (sym is) ∙ numbered number xs j d p) (ap (λ l. slice_get l k) (sym is) ∙ numbered number xs k e q) same

pub map_count : {A : Type 0} (number : A → ℕ) (xs : List A) → length (map number xs) ≡ length xs
map_count number [] = refl
map_count number (x ∷ xs) = ap suc (map_count number xs)

pub wants_count : (es : List Entry) → length (wants_of es) ≡ length es
wants_count [] = refl
wants_count (e ∷ es) = ap suc (wants_count es)

pub replies_count : (es : List Entry) → length (replies_to es) ≡ length es
replies_count [] = refl
replies_count (e ∷ es) = ap suc (replies_count es)

pub prefix_on : {A : Type 0} (xs ys zs : List A) → IsPrefix xs ys → IsPrefix ys zs → IsPrefix xs zs
prefix_on xs ys zs p q = (p.0 ++ q.0, sym (append_assoc xs p.0 q.0) ∙ (ap (λ l. l ++ q.0) p.1 ∙ q.1))

pub entries_prefix : (xs ys : List Batch) → IsPrefix xs ys → IsPrefix (entries_in xs) (entries_in ys)
entries_prefix xs ys p = (entries_in p.0, sym (entries_append xs p.0) ∙ ap entries_in p.1)

pub was_in : (a : Option Inbox) (j : Inbox) → SameInboxAt a (Some j) → (i : Inbox) × ((a ≡ Some i) × SameInbox i j)
was_in None j same = absurd same
was_in (Some i) j same = (i, (refl, same))

module _ {T : Type 0} {g : Ghosts T} where
  pub received_count : (rs : List (Receipt T g)) → length (replies_in rs) ≡ length rs
  received_count [] = refl
  received_count (r ∷ rs) = ap suc (received_count rs)

  replies_append : (rs ss : List (Receipt T g)) → replies_in (rs ++ ss) ≡ replies_in rs ++ replies_in ss
  replies_append [] ss = refl
  replies_append (r ∷ rs) ss = ap (λ l. record { slot = r.slot; serial = r.serial; verdict = r.verdict } ∷ l) (replies_append rs ss)

  pub replies_prefix : (rs ss : List (Receipt T g)) → IsPrefix rs ss → IsPrefix (replies_in rs) (replies_in ss)
  replies_prefix rs ss p = (replies_in p.0, sym (replies_append rs p.0) ∙ ap replies_in p.1)

  pub all_same_at : (cs ds : List (Console T g)) → AllSame cs ds → (k : ℕ) (d : Console T g) → slice_get ds k ≡ Some d → (c : Console T g) × ((slice_get cs k ≡ Some c) × SameConsole c d)
  all_same_at [] [] all k d at = absurd (none-some d at)
  all_same_at [] (y ∷ ds) all k d at = absurd all
  all_same_at (x ∷ cs) [] all k d at = absurd all
  all_same_at (x ∷ cs) (y ∷ ds) all zero d at = (x, (refl, subst (λ (e : Console T g). SameConsole x e) (same_Some y d at) all.0))
  all_same_at (x ∷ cs) (y ∷ ds) all (suc k) d at = all_same_at cs ds all.1 k d at

  pub same_slots : (cs ds : List (Console T g)) → AllSame cs ds → map (λ c. c.slot) ds ≡ map (λ c. c.slot) cs
  same_slots [] [] all = refl
  same_slots [] (y ∷ ds) all = absurd all
  same_slots (x ∷ cs) [] all = absurd all
  same_slots (x ∷ cs) (y ∷ ds) all = rw (all.0.2, same_slots cs ds all.1) refl

  pub pair_on : (c d : Console T g) (i j : Inbox) → SameConsole c d → SameInbox i j → IsPair c.requests i.requests → IsPair d.requests j.requests
  pair_on c d i j same same' pair = search rules

  pair_back : (c d : Console T g) (o p : Outbox T g) → SameConsole c d → SameOutbox o p → IsPair o.replies c.replies → IsPair p.replies d.replies
  pair_back c d o p same same' pair = search rules

  out_still : (a b : Option (Outbox T g)) → SameOutboxAt a b → IsSome a → IsSome b
  out_still None None p q = q
  out_still None (Some y) p q = absurd p
  out_still (Some x) None p q = absurd p
  out_still (Some x) (Some y) p q = refl

  was_out : (a : Option (Outbox T g)) (p : Outbox T g) → SameOutboxAt a (Some p) → (o : Outbox T g) × ((a ≡ Some o) × SameOutbox o p)
  was_out None p same = absurd same
  was_out (Some o) p same = (o, (refl, same))

  pub tied_still : (cs ds : List (Console T g)) (is js : List Inbox) (os ps : List (Outbox T g)) → AllSame cs ds → ((s : ℕ) → SameInboxAt (inbox_at s is) (inbox_at s js)) → ((s : ℕ) → SameOutboxAt (outbox_at s os) (outbox_at s ps)) → AreTied cs is os → AreTied ds js ps
  tied_still cs ds is js os ps all ins outs tied = record {
    has_inbox = λ k d at. (let c = all_same_at cs ds all k d at in subst (λ s. IsSome (inbox_at s js)) (sym c.1.1.2) (some_still (inbox_at c.0.slot is) (inbox_at c.0.slot js) (ins c.0.slot) (tied.has_inbox k c.0 c.1.0)));
    has_outbox = λ k d at. (let c = all_same_at cs ds all k d at in subst (λ s. IsSome (outbox_at s ps)) (sym c.1.1.2) (out_still (outbox_at c.0.slot os) (outbox_at c.0.slot ps) (outs c.0.slot) (tied.has_outbox k c.0 c.1.0)));
    requests = λ k d j at its. (let c = all_same_at cs ds all k d at in
        let i = was_in (inbox_at c.0.slot is) j (subst (λ o. SameInboxAt (inbox_at c.0.slot is) o) (ap (λ s. inbox_at s js) (sym c.1.1.2) ∙ its) (ins c.0.slot)) in
        pair_on c.0 d i.0 j c.1.1 i.1.1 (tied.requests k c.0 i.0 c.1.0 i.1.0));
    replies = λ k d p at its. (let c = all_same_at cs ds all k d at in
        let o = was_out (outbox_at c.0.slot os) p (subst (λ o. SameOutboxAt (outbox_at c.0.slot os) o) (ap (λ s. outbox_at s ps) (sym c.1.1.2) ∙ its) (outs c.0.slot)) in
        pair_back c.0 d o.0 p c.1.1 o.1.1 (tied.replies k c.0 o.0 c.1.0 o.1.0));
  }
