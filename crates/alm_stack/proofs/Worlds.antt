-- Worlds in which one request is under way.
use Rattle.std.proofs.Common.{◌≡◌, ◌⊎◌, inl, inr, ◌+◌, ◌-◌, ◌∙◌, ◌++◌, ◌∷◌, [], ℕ, List, Option, Some, false, drop, length, slice_get, refl, sym, ap, subst, arith, length-append}
use Rattle.alm_types.specs.declared.want.Want.{Want}
use Rattle.alm_types.specs.declared.verdict.Verdict.{Verdict}
use Rattle.alm_model.specs.Plant.{Condensed}
use Rattle.alm_model.specs.Judging.{accepted_of, verdict_of}
use Rattle.alm_model.proofs.Runs.{run_count}
use Rattle.alm_pipeline.specs.declared.step.Step.TheVariants.{Send, Take, Seal, Fetch, Publish, Release, GiveBack, Receive}
use Rattle.alm_pipeline.specs.declared.step_event.StepEvent.{StepEvent}
use Rattle.alm_pipeline.specs.declared.step_event.StepEvent.TheVariants.{Sent, Busy, Took, Sealed, Fetched, Published, Released, GaveBack, Received, Skipped}
use Rattle.alm_pipeline.specs.World.{World, Note, Nothing, Answers, Possible, after_step, entry_for, first, judges, live, says, with_at, with_entry}
use Rattle.alm_pipeline.proofs.Lists.{get_seam}
use Rattle.alm_pipeline.proofs.Placing.{same_or_not, with_here, with_there}
use Rattle.alm_stack.specs.Exchanges.{IsIdle, entry_at, handed_in, stored_world}

-- ---- what a step answers if it is possible

pub sent_or_busy : (w : World) (slot : ℕ) (a : Want) (e : StepEvent) → Possible w (Send slot a) → Answers w (Send slot a) e → ((serial : ℕ) × (e ≡ Sent serial)) ⊎ (e ≡ Busy)
sent_or_busy w slot a (Sent serial) possible is = inl (serial, refl)
sent_or_busy w slot a Busy possible is = inr refl
sent_or_busy w slot a Skipped possible is = absurd (is possible)
sent_or_busy w slot a e possible is = absurd is

pub took : (w : World) (slot : ℕ) (e : StepEvent) → Possible w (Take slot) → Answers w (Take slot) e → (v : Verdict) × (e ≡ Took v)
took w slot (Took v) possible is = (v, refl)
took w slot Skipped possible is = absurd (is possible)
took w slot e possible is = absurd is

pub sealed : (w : World) (e : StepEvent) → Possible w Seal → Answers w Seal e → e ≡ Sealed
sealed w Sealed possible is = refl
sealed w Skipped possible is = absurd (is possible)
sealed w e possible is = absurd is

pub fetched : (w : World) (e : StepEvent) → Possible w Fetch → Answers w Fetch e → e ≡ Fetched
fetched w Fetched possible is = refl
fetched w Skipped possible is = absurd (is possible)
fetched w e possible is = absurd is

pub published : (w : World) (e : StepEvent) → Possible w Publish → Answers w Publish e → e ≡ Published
published w Published possible is = refl
published w Skipped possible is = absurd (is possible)
published w e possible is = absurd is

pub released : (w : World) (e : StepEvent) → Possible w Release → Answers w Release e → (slot : ℕ) × (e ≡ Released slot)
released w (Released slot) possible is = (slot, refl)
released w Skipped possible is = absurd (is possible)
released w e possible is = absurd is

pub gave_back : (w : World) (e : StepEvent) → Possible w GiveBack → Answers w GiveBack e → e ≡ GaveBack
gave_back w GaveBack possible is = refl
gave_back w Skipped possible is = absurd (is possible)
gave_back w e possible is = absurd is

pub received : (w : World) (slot : ℕ) (e : StepEvent) → Possible w (Receive slot) → Answers w (Receive slot) e → (serial : ℕ) × (v : Verdict) × (number : ℕ) × (e ≡ Received serial v number)
received w slot (Received serial v number) possible is = (serial, v, number, refl)
received w slot Skipped possible is = absurd (is possible)
received w slot e possible is = absurd is

-- ---- an idle world, written out

abbrev pub normal : World → World
normal w = record w { taking = []; sealed = []; free = 7; stage = Nothing; stored = w.accepted; published = w.accepted; closed = false }

is_normal : (w : World) → IsIdle w → w ≡ normal w
is_normal w i = λ j. record w { taking = i.taking j; sealed = i.sealed j; free = i.free j; stage = i.stage j; stored = i.stored j; published = i.published j; closed = i.opened j }

-- ---- a request is handed in

abbrev pub sent_at : World → ℕ → Want → World
sent_at w slot want = record w { sent = with_at w.sent slot (w.sent slot ++ want ∷ []) }

abbrev pub taken_at : World → ℕ → Want → Verdict → World
taken_at w slot want v = after_step (sent_at w slot want) (Take slot) (Took v)

abbrev pub sealed_at : World → ℕ → Want → Verdict → World
sealed_at w slot want v = after_step (taken_at w slot want v) Seal Sealed

abbrev pub fetched_at : World → ℕ → Want → Verdict → World
fetched_at w slot want v = after_step (sealed_at w slot want v) Fetch Fetched

get_want : (w : World) → IsIdle w → (slot : ℕ) (want : Want) → slice_get (with_at w.sent slot (w.sent slot ++ want ∷ []) slot) (w.taken slot) ≡ Some want
get_want w i slot want =
    ap (λ (l : List Want). slice_get l (w.taken slot)) (with_here w.sent slot (w.sent slot ++ want ∷ []) slot refl) ∙ (ap (λ (n : ℕ). slice_get (w.sent slot ++ want ∷ []) n) (i.taken slot) ∙ get_seam (w.sent slot) [] want)

abbrev taken_out : World → World → ℕ → Want → Verdict → World
taken_out w x slot want v = with_entry (sent_at x slot want) slot (entry_at w slot want v ∷ [])

is_taken : (w : World) → IsIdle w → (slot : ℕ) (want : Want) (v : Verdict) → taken_at w slot want v ≡ taken_out w (normal w) slot want v
is_taken w i slot want v =
    ap (λ (o : Option Want). with_entry (sent_at w slot want) slot (entry_for (sent_at w slot want) slot o v)) (get_want w i slot want) ∙ ap (λ (x : World). taken_out w x slot want v) (is_normal w i)

is_sealed : (w : World) → IsIdle w → (slot : ℕ) (want : Want) (v : Verdict) → sealed_at w slot want v ≡ after_step (taken_out w (normal w) slot want v) Seal Sealed
is_sealed w i slot want v = ap (λ (x : World). after_step x Seal Sealed) (is_taken w i slot want v)

pub is_fetched : (w : World) → IsIdle w → (slot : ℕ) (want : Want) (v : Verdict) → fetched_at w slot want v ≡ handed_in w slot want v
is_fetched w i slot want v = ap (λ (x : World). after_step x Fetch Fetched) (is_sealed w i slot want v)

pub may_take : (w : World) → IsIdle w → (slot : ℕ) (want : Want) → Possible (sent_at w slot want) (Take slot)
may_take w i slot want = (
  i.opened,
  omega (arith, i.taken slot, ap length (with_here w.sent slot (w.sent slot ++ want ∷ []) slot refl), length-append (w.sent slot) (want ∷ [])),
  omega (arith, ap length i.taking),
)

pub may_seal : (w : World) → IsIdle w → (slot : ℕ) (want : Want) (v : Verdict) → Possible (taken_at w slot want v) Seal
may_seal w i slot want v = subst (λ (x : World). Possible x Seal) (sym (is_taken w i slot want v)) (refl, omega arith, omega arith)

pub may_fetch : (w : World) → IsIdle w → (slot : ℕ) (want : Want) (v : Verdict) → Possible (sealed_at w slot want v) Fetch
may_fetch w i slot want v = subst (λ (x : World). Possible x Fetch) (sym (is_sealed w i slot want v)) (refl, refl, omega arith)

-- it is judged on the plant of all that was accepted before
pub judged_on : (w : World) → IsIdle w → (slot : ℕ) (want : Want) (v : Verdict) → Answers (sent_at w slot want) (Take slot) (Took v) → v ≡ verdict_of (live w) (record { slot = slot; want = want })
judged_on w i slot want v is = subst (λ (o : Option Want). judges (sent_at w slot want) slot o v) (get_want w i slot want) is.1

-- ---- its reply is released

abbrev pub shown_at : World → ℕ → Want → Verdict → World
shown_at w slot want v = after_step (stored_world w slot want v) Publish Published

abbrev pub released_at : World → ℕ → Want → Verdict → World
released_at w slot want v = after_step (shown_at w slot want v) Release (Released slot)

abbrev pub given_at : World → ℕ → Want → Verdict → World
given_at w slot want v = after_step (released_at w slot want v) GiveBack GaveBack

abbrev pub received_at : World → ℕ → Want → Verdict → World
received_at w slot want v = let y = given_at w slot want v in record y { received = with_at y.received slot (y.received slot + 1) }

abbrev note_at : World → ℕ → Want → Verdict → Note
note_at w slot want v = record {
  serial = w.taken slot + 1;
  verdict = v;
  number = w.base.panel.count + length (shown_at w slot want v).published - length (accepted_of (drop 1 (entry_at w slot want v ∷ [])));
}

get_note : (w : World) → IsIdle w → (slot : ℕ) (want : Want) (v : Verdict) → slice_get ((given_at w slot want v).released slot) (w.received slot) ≡ Some (note_at w slot want v)
get_note w i slot want v =
    let notes = w.released slot ++ note_at w slot want v ∷ [] in
    let at : w.received slot ≡ length (w.released slot) = i.received slot ∙ sym (i.released slot) in
    ap (λ (l : List Note). slice_get l (w.received slot)) (with_here w.released slot notes slot refl) ∙ (ap (λ (n : ℕ). slice_get notes n) at ∙ get_seam (w.released slot) [] (note_at w slot want v))

pub may_receive : (w : World) → IsIdle w → (slot : ℕ) (want : Want) (v : Verdict) → Possible (given_at w slot want v) (Receive slot)
may_receive w i slot want v =
    let notes = w.released slot ++ note_at w slot want v ∷ [] in
    (refl, omega (arith, i.received slot, i.released slot, ap length (with_here w.released slot notes slot refl), length-append (w.released slot) (note_at w slot want v ∷ [])))

-- the reply says what was judged, and the count of the plant with it
pub reply_is : (w : World) → IsIdle w → (slot : ℕ) (want : Want) (v : Verdict) (serial : ℕ) (verdict : Verdict) (number : ℕ) → Answers (given_at w slot want v) (Receive slot) (Received serial verdict number)
    → (verdict ≡ v) × (number ≡ (live (handed_in w slot want v)).panel.count)
reply_is w i slot want v serial verdict number is =
    let said = subst (λ (o : Option Note). says o serial verdict number) (get_note w i slot want v) is.1 in
    (said.1, omega (arith, said.2, run_count w.base (shown_at w slot want v).published))

pub reply_of : (w : World) → IsIdle w → (slot : ℕ) (want : Want) (v : Verdict) (number : ℕ) → number ≡ (live (handed_in w slot want v)).panel.count
    → Answers (given_at w slot want v) (Receive slot) (Received (length (w.sent slot) + 1) v number)
reply_of w i slot want v number is = (
  may_receive w i slot want v,
  subst (λ (o : Option Note). says o (length (w.sent slot) + 1) v number) (sym (get_note w i slot want v))
      (omega (arith, i.taken slot), refl, omega (arith, is, run_count w.base (shown_at w slot want v).published)),
)

counts_at : (f : ℕ → ℕ) (slot s : ℕ) → with_at f slot (f slot + 1) s ≡ f s + (with_at (λ _. 0) slot 1 s)
counts_at f slot s = elim (same_or_not s slot) [
  | inl q ↦ omega (arith, with_here f slot (f slot + 1) s q, with_here {A = ℕ} (λ _. 0) slot 1 s q, ap f q)
  | inr n ↦ omega (arith, with_there f slot (f slot + 1) s n, with_there {A = ℕ} (λ _. 0) slot 1 s n)
]

lists_at : {A : Type 0} (f : ℕ → List A) (slot : ℕ) (x : A) (s : ℕ) → length (with_at f slot (f slot ++ x ∷ []) s) ≡ length (f s) + (with_at (λ _. 0) slot 1 s)
lists_at f slot x s = elim (same_or_not s slot) [
  | inl q ↦ omega (arith, ap length (with_here f slot (f slot ++ x ∷ []) s q), with_here {A = ℕ} (λ _. 0) slot 1 s q, ap (λ n. length (f n)) q, length-append (f slot) (x ∷ []))
  | inr n ↦ omega (arith, ap length (with_there f slot (f slot ++ x ∷ []) s n), with_there {A = ℕ} (λ _. 0) slot 1 s n)
]

-- and no request is under way again
pub idle_again : (w : World) → IsIdle w → (slot : ℕ) (want : Want) (v : Verdict) → IsIdle (received_at w slot want v)
idle_again w i slot want v = record {
  opened = refl;
  taking = refl;
  sealed = refl;
  free = refl;
  stage = refl;
  stored = refl;
  published = refl;
  taken = λ s. omega (arith, counts_at w.taken slot s, lists_at w.sent slot want s, i.taken s);
  released = λ s. omega (arith, lists_at w.released slot (note_at w slot want v) s, lists_at w.sent slot want s, i.released s);
  received = λ s. omega (arith, counts_at w.received slot s, lists_at w.sent slot want s, i.received s);
}

-- a plant's first world is idle
pub idle_first : (q : Condensed) → IsIdle (first q)
idle_first q = record {
  opened = refl;
  taking = refl;
  sealed = refl;
  free = refl;
  stage = refl;
  stored = refl;
  published = refl;
  taken = λ s. refl;
  released = λ s. refl;
  received = λ s. refl;
}
