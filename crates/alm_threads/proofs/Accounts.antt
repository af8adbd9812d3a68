-- Sources that account for their consoles.
use Rattle.std.proofs.Common.{◌≡◌, ◌∙◌, ◌++◌, List, [], ◌∷◌, map, refl, ap, sym, subst}
use Rattle.alm_types.specs.declared.want.Want.{Want}
use Rattle.alm_rings.specs.declared.console.Console.{Console}
use Rattle.alm_rings.specs.declared.told.Told.{Ghosts}
use Rattle.alm_rings.specs.Ends.{sent_of, received_of}
use Rattle.alm_threads.specs.Same.{AllIdle}
use Rattle.alm_threads.specs.Sources.{Accounts, AllAccount, Reported, SourceState, TookTurns, reported_of, source_state, states_of}

module _ {S L T : Type 0} {g : Ghosts T} where
  -- the states of sources, by what has them
  pub states_are : {P : Type 0} (source : P → S) (look : P → L) (console : P → Console T g) (ps : List P) → map (λ p. source_state (source p) (look p) (console p)) ps ≡ states_of (map source ps) (map look ps) (map console ps)
  states_are source look console [] = refl
  states_are source look console (p ∷ ps) = ap (λ (l : List (SourceState S L)). source_state (source p) (look p) (console p) ∷ l) (states_are source look console ps)

module _ {S L T : Type 0} {g : Ghosts T} (did : SourceState S L → SourceState S L → Type 0) where
  -- one more after others
  pub accounts_snoc : (froms : List (SourceState S L)) (sources : List S) (consoles : List (Console T g)) (from : SourceState S L) (s : S) (c : Console T g)
      → AllAccount did froms sources consoles → Accounts did from s c → AllAccount did (froms ++ from ∷ []) (sources ++ s ∷ []) (consoles ++ c ∷ [])
  accounts_snoc [] [] [] from s c all one = (one, tt)
  accounts_snoc [] [] (x ∷ cs) from s c all one = absurd all
  accounts_snoc [] (x ∷ ss) cs from s c all one = absurd all
  accounts_snoc (f ∷ fs) [] cs from s c all one = absurd all
  accounts_snoc (f ∷ fs) (x ∷ ss) [] from s c all one = absurd all
  accounts_snoc (f ∷ fs) (x ∷ ss) (y ∷ cs) from s c all one = (all.0, accounts_snoc fs ss cs from s c all.1 one)

  -- of a console at which nothing was sent or received since
  account_on : (from : SourceState S L) (s : S) (c d : Console T g) → sent_of d ≡ sent_of c → received_of d ≡ received_of c → Accounts did from s c → Accounts did from s d
  account_on from s c d sent received one = record {
    look = one.look;
    before = one.before;
    turns = subst (λ (xs : List Want). TookTurns did from one.before (record { source = s; look = one.look; sent = xs; received = map reported_of (received_of d) })) (sym sent)
        (subst (λ (rs : List Reported). TookTurns did from one.before (record { source = s; look = one.look; sent = sent_of c; received = rs })) (ap (λ rs. map reported_of rs) (sym received)) one.turns);
  }

  pub accounts_on : (froms : List (SourceState S L)) (sources : List S) (cs ds : List (Console T g)) → AllIdle cs ds → AllAccount did froms sources cs → AllAccount did froms sources ds
  accounts_on [] [] [] [] idle all = all
  accounts_on [] [] [] (d ∷ ds) idle all = absurd idle
  accounts_on [] [] (c ∷ cs) ds idle all = absurd all
  accounts_on [] (s ∷ ss) cs ds idle all = absurd all
  accounts_on (f ∷ fs) [] cs ds idle all = absurd all
  accounts_on (f ∷ fs) (s ∷ ss) [] ds idle all = absurd all
  accounts_on (f ∷ fs) (s ∷ ss) (c ∷ cs) [] idle all = absurd idle
  accounts_on (f ∷ fs) (s ∷ ss) (c ∷ cs) (d ∷ ds) idle all = (account_on f s c d idle.0 idle.1 all.0, accounts_on fs ss cs ds idle.2 all.1)
