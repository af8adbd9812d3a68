use Rattle.std.proofs.Common.{sym, ◌∙◌, ⊎_elim}
use Rattle.alm_store.specs.declared.progress.Progress.TheVariants.{Done}
use Rattle.alm_flush.proofs.Pacing.{commit_ends, goes_on, stays_alone}
use Rattle.alm_flush.proofs.commit.call.Goals as goal

pub returns-in-Committing-clause-pace : goal.returns-in-Committing-clause-pace
returns-in-Committing-clause-pace g c =
    let old = g.K.Store.state c.args.store.now in
    let new = g.K.Store.state c.advance.new.self in
    let e = c.in-Done.ensures in
    let at = sym c.phase-phase.ensures ∙ c.in-Committing.is in
    record {
      segment = e.pace.segment;
      newest = e.standing.1;
      pace = λ is. absurd (cc is);
      near = λ _ _ _ keeps. commit_ends old.segment new.segment old.used new.used old.written new.written old.phase new.phase old.going new.going e.pace.segment at e.advanced.0 e.pace.pace keeps;
      alone = λ _ none. stays_alone old.phase old.used new.used new.written old.going new.going at none e.pace.pace;
    }

pub returns-in_default-clause-pace : goal.returns-in_default-clause-pace
returns-in_default-clause-pace g c =
    let old = g.K.Store.state c.args.store.now in
    let new = g.K.Store.state c.advance.new.self in
    let e = c.in-Done.ensures in
    record {
      segment = e.pace.segment;
      newest = e.standing.1;
      pace = λ _ _ long keeps. goes_on Done old.segment new.segment old.used new.used old.written new.written old.phase new.phase old.going new.going long e.pace.segment (λ x. absurd cc)
          (λ _. ⊎_elim (λ x. absurd (c.in_default.not-Committing (c.phase-phase.ensures ∙ x))) (λ x. x) c.requires.working) (λ x. absurd (e.advanced.0 x)) e.pace.unwritten e.pace.pace keeps;
      near = λ is. absurd (cc is);
      alone = λ is. absurd (cc is);
    }
