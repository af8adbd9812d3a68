-- What a source does at its slot.
use Rattle.std.specs.Prelude.{◌≡◌, ℕ, List, [], ◌∷◌, map}
use Rattle.alm_types.specs.declared.action.Action.{Action}
use Rattle.alm_types.specs.declared.logged_action.LoggedAction.{LoggedAction}
use Rattle.alm_types.specs.declared.want.Want.{Want}
use Rattle.alm_types.specs.declared.verdict.Verdict.{Verdict}
use Rattle.alm_rings.specs.declared.console.Console.{Console}
use Rattle.alm_rings.specs.declared.receipt.Receipt.{Receipt}
use Rattle.alm_rings.specs.declared.told.Told.{Ghosts}
use Rattle.alm_rings.specs.Ends.{sent_of, received_of}

-- a receipt, with the list that it reports, and how many actions there were before that list
pub record Reported : Type 0 where
  pub slot : ℕ
  pub serial : ℕ
  pub verdict : Verdict
  pub number : ℕ
  pub opened : ℕ
  pub list : List Action
  pub logged : List LoggedAction

-- a source with its look, and all that was sent and received at its console
pub record SourceState (S L : Type 0) : Type 0 where
  pub source : S
  pub look : L
  pub sent : List Want
  pub received : List Reported

module _ {T : Type 0} {g : Ghosts T} where
  abbrev pub reported_of : Receipt T g → Reported
  reported_of r = record { slot = r.slot; serial = r.serial; verdict = r.verdict; number = r.number; opened = g.base_count r.told; list = g.list r.told; logged = g.logged r.told }

  abbrev pub source_state : {S L : Type 0} → S → L → Console T g → SourceState S L
  source_state source look console = record { source = source; look = look; sent = sent_of console; received = map reported_of (received_of console) }

module _ {S L : Type 0} where
  -- turns led from one state to another, and nothing else did. `before` has the state before each turn, the last turn first
  abbrev pub TookTurns : (did : SourceState S L → SourceState S L → Type 0) → (from : SourceState S L) → (before : List (SourceState S L)) → (to : SourceState S L) → Type 0
  TookTurns did from [] to = to ≡ from
  TookTurns did from (last ∷ before) to = did last to × TookTurns did from before last

module _ {S L T : Type 0} {g : Ghosts T} where
  -- all that was sent and received at this console since that state was so in turns of the source, which has become this one
  pub record Accounts (did : SourceState S L → SourceState S L → Type 0) (from : SourceState S L) (source : S) (console : Console T g) : Type 0 where
    pub look : L
    pub before : List (SourceState S L)
    pub turns : TookTurns did from before (source_state source look console)

  -- the same of each slot, in their order
  abbrev pub AllAccount : (did : SourceState S L → SourceState S L → Type 0) → List (SourceState S L) → List S → List (Console T g) → Type 0
  AllAccount did [] [] [] = Unit {0}
  AllAccount did (from ∷ froms) (source ∷ sources) (console ∷ consoles) = Accounts did from source console × AllAccount did froms sources consoles
  AllAccount did froms sources consoles = ⊥

  -- the states of sources with these looks at these consoles
  abbrev pub states_of : List S → List L → List (Console T g) → List (SourceState S L)
  states_of (source ∷ sources) (look ∷ looks) (console ∷ consoles) = source_state source look console ∷ states_of sources looks consoles
  states_of sources looks consoles = []
