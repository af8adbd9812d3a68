-- What a keeper answers to a begin.
use Rattle.std.proofs.Common.{◌≡◌, ◌≢◌, ◌⊎◌, inl, inr, ℕ, ◌+◌, ◌≤◌, ◌^◌, ◌==◌, List, [], ◌∷◌, ◌++◌, Option, Some, None, Result, Ok, Err, OnOk, IsOk, refl, sym, ◌∙◌, ap, subst, arith, Bool, true, false}
use Rattle.std.specs.Prelude.{if◌then◌else◌, ◌&&◌}
use Rattle.std.specs.Option.{is_none}
use Rattle.std.proofs.lemmas.Bool.{cases_eq, ne_eqb, eq-eqb}
use Rattle.alm_types.specs.declared.entry.Entry.{Entry}
use Rattle.alm_types.specs.declared.refusal.Refusal.{Refusal}
use Rattle.alm_types.specs.declared.verdict.Verdict.{Verdict}
use Rattle.alm_types.specs.declared.verdict.Verdict.TheVariants.{Accepted, Refused}
use Rattle.alm_types.specs.Batches.{Judged}
use Rattle.alm_model.specs.Accept.{refusal}
use Rattle.alm_model.specs.Plant.{Condensed}
use Rattle.alm_model.specs.Judging.{accepted_of, when_accepted}
use Rattle.alm_model.specs.Rules.{AllAdmitted, admits_all}
use Rattle.alm_model.specs.Step.{step}
use Rattle.alm_codec.specs.Reading.{◌>>=◌}
use Rattle.alm_store.specs.declared.phase.Phase.{Phase}
use Rattle.alm_store.specs.declared.phase.Phase.TheVariants as at
use Rattle.alm_store.specs.declared.refused.Refused as R
use Rattle.alm_store.specs.declared.refused.Refused.TheVariants as no
use Rattle.alm_keeper.specs.Batch.{tried_batch, tried_one, or_place}
use Rattle.alm_keeper.specs.Keeper.{KeeperView, begin_answer, checkpoint_answer, trial}
use Rattle.alm_keeper.specs.Stages.{phase_of}
use Rattle.alm_store.specs.Advancing.{IsResting}
use Rattle.alm_keeper.proofs.Tried.{tried_admitted}

-- a batch whose trial succeeded has admitted actions
one_tried : (o : Option Refusal) (place : ℕ) (p r : Condensed) (f : Condensed → Result Condensed ℕ) (b : Bool) → ((q : Condensed) → f p ≡ Ok q → b ≡ true) → (or_place o place p >>= f) ≡ Ok r → (is_none o && b) ≡ true
one_tried None place p r f b rest is = rest r is
one_tried (Some why) place p r f b rest is = absurd cc

verdict_tried : (q r : Condensed) (place : ℕ) (v : Verdict) (entries : List Entry) → ((p s : Condensed) → tried_batch p (place + 1) entries ≡ Ok s → admits_all p (accepted_of entries) ≡ true)
    → (tried_one q place v >>= λ p. tried_batch p (place + 1) entries) ≡ Ok r → admits_all q (when_accepted v ++ accepted_of entries) ≡ true
verdict_tried q r place (Accepted a) entries rest is =
    one_tried (refusal q.panel a) place (step q a) r (λ p. tried_batch p (place + 1) entries) (admits_all (step q a) (accepted_of entries)) (λ s. rest (step q a) s) is
verdict_tried q r place (Refused why count) entries rest is = rest q r is

tried_admits : (entries : List Entry) (q r : Condensed) (place : ℕ) → tried_batch q place entries ≡ Ok r → admits_all q (accepted_of entries) ≡ true
tried_admits [] q r place is = refl
tried_admits (e ∷ entries) q r place is = verdict_tried q r place e.verdict entries (λ p s. tried_admits entries p s (place + 1)) is

trial_ok : (t : Result Condensed ℕ) (x : Unit) → trial t ≡ Ok x → (q : Condensed) × (t ≡ Ok q)
trial_ok (Ok q) x is = (q, refl)
trial_ok (Err place) x is = absurd cc

if_ok : (b : Bool) (t : Result Unit R.Refused) (x : Unit) → (if b then t else Err no.Gap) ≡ Ok x → t ≡ Ok x
if_ok true t x is = is
if_ok false t x is = absurd cc

answered : (phase : Phase) (plant : Condensed) (batch : Judged) (x : Unit) → begin_answer phase plant batch ≡ Ok x → admits_all plant (accepted_of batch.entries) ≡ true
answered at.Idle plant batch x is =
    let went = trial_ok (tried_batch plant 0 batch.entries) x (if_ok (batch.first == plant.panel.count + 1) (trial (tried_batch plant 0 batch.entries)) x is) in
    tried_admits batch.entries plant went.0 0 went.1
answered at.Paused plant batch x is =
    let went = trial_ok (tried_batch plant 0 batch.entries) x (if_ok (batch.first == plant.panel.count + 1) (trial (tried_batch plant 0 batch.entries)) x is) in
    tried_admits batch.entries plant went.0 0 went.1
answered at.Committing plant batch x is = absurd cc
answered at.Copying plant batch x is = absurd cc
answered at.Stopped plant batch x is = absurd cc

pub begun_admitted : (result : Result Unit R.Refused) (phase : Phase) (plant : Condensed) (batch : Judged) → result ≡ begin_answer phase plant batch → OnOk result (admits_all plant (accepted_of batch.entries) ≡ true)
begun_admitted (Ok x) phase plant batch is = answered phase plant batch x (sym is)
begun_admitted (Err why) phase plant batch is = tt

ok_of : {A : Type 0} {E : Type 0} (r : Result A E) (x : A) → r ≡ Ok x → IsOk r
ok_of r x e = subst IsOk (sym e) refl

-- an idle or paused keeper begins a batch that is the next one and admitted
next_begun : (phase : Phase) (plant : Condensed) (batch : Judged) → IsResting phase → batch.first ≡ plant.panel.count + 1 → AllAdmitted plant (accepted_of batch.entries) → begin_answer phase plant batch ≡ Ok tt
next_begun at.Idle plant batch rest first all = rw (eq-eqb batch.first (plant.panel.count + 1) first) (ap trial (tried_admitted plant 0 batch.entries all))
next_begun at.Paused plant batch rest first all = rw (eq-eqb batch.first (plant.panel.count + 1) first) (ap trial (tried_admitted plant 0 batch.entries all))
next_begun at.Committing plant batch rest first all = absurd rest
next_begun at.Copying plant batch rest first all = absurd rest
next_begun at.Stopped plant batch rest first all = absurd rest

pub begun_cause : {D : Type 0} (result : Result Unit R.Refused) (k : KeeperView D) (batch : Judged) → result ≡ begin_answer (phase_of k.stage k.work) k.stored.plant batch → IsResting (phase_of k.stage k.work)
    → batch.first ≡ k.stored.plant.panel.count + 1 → AllAdmitted k.stored.plant (accepted_of batch.entries) → IsOk result
begun_cause result k batch is rest first all = ok_of result tt (is ∙ next_begun (phase_of k.stage k.work) k.stored.plant batch rest first all)

-- and a checkpoint, before the last epoch
pub copied_cause : {D : Type 0} (result : Result Unit R.Refused) (k : KeeperView D) → result ≡ checkpoint_answer (phase_of k.stage k.work) k.stored.epoch → phase_of k.stage k.work ≡ at.Idle → ¬ (2 ^ 64 ≤ k.stored.epoch + 1) → IsOk result
copied_cause result k is idle left = by_epoch (cases_eq (k.stored.epoch + 1) (2 ^ 64))
  where
    here : result ≡ checkpoint_answer at.Idle k.stored.epoch
    here = is ∙ ap (λ (p : Phase). checkpoint_answer p k.stored.epoch) idle

    by_epoch : (k.stored.epoch + 1 ≡ 2 ^ 64) ⊎ (k.stored.epoch + 1 ≢ 2 ^ 64) → IsOk result
    by_epoch (inl e) = absurd (left (omega (arith, e)))
    by_epoch (inr e) = ok_of result tt (here ∙ ap (λ (x : Bool). if x then Err no.Exhausted else Ok tt) (ne_eqb (k.stored.epoch + 1) (2 ^ 64) e))
