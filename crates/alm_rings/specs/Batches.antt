-- The ends of the batch rings: what went into them, what came out, and what each end knows.
use Rattle.std.specs.Prelude.{ℕ, List, []}
use Rattle.rtrb.specs.Ring.{sent, received, known_free, known_items, IsPair, SameProducer, SameConsumer}
use Rattle.alm_types.specs.Batches.{Judged}
use Rattle.alm_rings.specs.declared.seal_ends.SealEnds.{SealEnds}
use Rattle.alm_rings.specs.declared.fetch_ends.FetchEnds.{FetchEnds}

-- all batches that were sealed, oldest first
abbrev pub sealed_of : SealEnds → List Judged
sealed_of s = sent s.full

-- all batches that were fetched, oldest first
abbrev pub fetched_of : FetchEnds → List Judged
fetched_of f = received f.full

-- the sealed batches that it knows to wait
abbrev pub coming_in : FetchEnds → List Judged
coming_in f = known_items f.full

-- the places for sealed batches that it knows to be free
abbrev pub places_of : SealEnds → ℕ
places_of s = known_free s.full

-- all batches that were returned, oldest first
abbrev pub given_of : FetchEnds → List Judged
given_of f = sent f.empty

-- all batches that were returned to the sequencer, oldest first
abbrev pub emptied_of : SealEnds → List Judged
emptied_of s = received s.empty

-- the empty batches that it knows to wait
abbrev pub empties_in : SealEnds → List Judged
empties_in s = known_items s.empty

-- the places for empty batches that it knows to be free
abbrev pub places_in : FetchEnds → ℕ
places_in f = known_free f.empty

-- the two ends of both batch rings
abbrev pub AreBatchEnds : SealEnds → FetchEnds → Type 0
AreBatchEnds s f = IsPair s.full f.full × IsPair f.empty s.empty

-- the same ends
abbrev pub SameSealEnds : SealEnds → SealEnds → Type 0
SameSealEnds a b = SameProducer a.full b.full × SameConsumer a.empty b.empty

abbrev pub SameFetchEnds : FetchEnds → FetchEnds → Type 0
SameFetchEnds a b = SameConsumer a.full b.full × SameProducer a.empty b.empty

-- a batch that was emptied
abbrev pub without_entries : Judged → Judged
without_entries batch = record { first = batch.first; entries = [] }
