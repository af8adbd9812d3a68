use Rattle.std.proofs.Common.{◌≡◌, ◌∙◌, ◌++◌, ◌+◌, [], ◌∷◌, ℕ, List, ap, sym, subst, arith, length}
use Rattle.std.proofs.lemmas.List.{append-nil}
use Rattle.alm_model.specs.Judging.{IsLegal, accepted_of, entries_in, of_slot, wants_of, serials_of, firsts_of, firsts_from}
use Rattle.alm_types.specs.Batches.{Judged}
use Rattle.alm_model.specs.Step.{run}
use Rattle.alm_model.proofs.Runs.{run_count}
use Rattle.alm_model.proofs.Legal.{entries_snoc, firsts_more, firsts_snoc}
use Rattle.alm_rings.specs.Batches.{sealed_of}
use Rattle.alm_seq.proofs.sequencer.Sequencer.seal.Goals as goal

pub invariant_of-self-in-Ok : goal.invariant_of-self-in-Ok
invariant_of-self-in-Ok g c =
    let old = c.args.self.now in
    let base = g.P.Alarms.plant old.base.value in
    let same : sealed_of c.empty_batch.new.ends ≡ sealed_of old.ends = c.empty_batch.ensures.sealed.0 in
    let first : entries_in (sealed_of c.seal.new.self) ≡ entries_in (sealed_of old.ends) ++ old.batch.entries =
    ap entries_in c.in-Ok.ensures.ok.0 ∙ (entries_snoc (sealed_of c.empty_batch.new.ends) c.replace-full.result
    ∙ (ap (λ l. entries_in l ++ c.replace-full.result.entries) same ∙ ap (λ b. entries_in (sealed_of old.ends) ++ b.entries) c.replace-full.ensures.value)) in
    let all : entries_in (sealed_of c.seal.new.self) ++ c.restart.new.self.entries ≡ entries_in (sealed_of old.ends) ++ old.batch.entries =
    ap (λ b. entries_in (sealed_of c.seal.new.self) ++ b.entries) c.restart.ensures ∙ (append-nil (entries_in (sealed_of c.seal.new.self)) ∙ first) in
    let grown : sealed_of c.seal.new.self ≡ sealed_of old.ends ++ old.batch ∷ [] =
    c.in-Ok.ensures.ok.0 ∙ (ap (λ (l : List Judged). l ++ c.replace-full.result ∷ []) same ∙ ap (λ (b : Judged). sealed_of old.ends ++ b ∷ []) c.replace-full.ensures.value) in
    let begins : old.batch.first ≡ (base.panel.count + 1) + length (accepted_of (entries_in (sealed_of old.ends))) = omega (arith, old.first) in
    record {
      placed = old.placed;
      legal = subst (IsLegal base) (sym all) old.legal;
      wants = λ s. ap (λ l. wants_of (of_slot s l)) all ∙ old.wants s;
      serials = λ s. ap (λ l. serials_of (of_slot s l)) all ∙ old.serials s;
      live = old.live ∙ ap (λ l. run base (accepted_of l)) (sym all);
      most = old.most;
      firsts = ap firsts_of grown ∙ (firsts_more (sealed_of old.ends) old.batch ∙ (ap (λ (l : List ℕ). l ++ old.batch.first ∷ []) old.firsts ∙ (ap (λ (n : ℕ). firsts_from (base.panel.count + 1) (sealed_of old.ends) ++ n ∷ []) begins ∙ (sym (firsts_snoc (base.panel.count + 1) (sealed_of old.ends) old.batch) ∙ ap (firsts_from (base.panel.count + 1)) (sym grown)))));
      first = ap (λ b. b.first) c.restart.ensures ∙ omega (arith, c.count.ensures, ap (λ q. q.panel.count) old.live, run_count base (accepted_of (entries_in (sealed_of old.ends) ++ old.batch.entries)), ap (λ l. length (accepted_of l)) first);
    }
