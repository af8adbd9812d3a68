use Rattle.std.proofs.Common.{◌≡◌, ◌+◌, Ok, ap}
use Rattle.std.proofs.lemmas.Bool.{eq-eqb}
use Rattle.alm_types.specs.Batches.{Judged}
use Rattle.alm_model.specs.Plant.{Condensed}
use Rattle.alm_model.specs.Judging.{accepted_of}
use Rattle.alm_model.specs.Rules.{AllAdmitted}
use Rattle.alm_keeper.specs.Keeper.{trial, begin_answer}
use Rattle.alm_store.specs.Advancing.{IsResting}
use Rattle.alm_store.specs.declared.phase.Phase.{Phase}
use Rattle.alm_store.specs.declared.phase.Phase.TheVariants as at
use Rattle.alm_keeper.proofs.Tried.{tried_admitted}
use Rattle.alm_keeper.proofs.laws.next_batch_is_begun.Goals as goal

by_phase : (phase : Phase) (plant : Condensed) (batch : Judged) → IsResting phase → batch.first ≡ plant.panel.count + 1 → AllAdmitted plant (accepted_of batch.entries) → begin_answer phase plant batch ≡ Ok tt
by_phase at.Idle plant batch rests first admitted = rw (eq-eqb batch.first (plant.panel.count + 1) first) (ap trial (tried_admitted plant 0 batch.entries admitted))
by_phase at.Paused plant batch rests first admitted = rw (eq-eqb batch.first (plant.panel.count + 1) first) (ap trial (tried_admitted plant 0 batch.entries admitted))
by_phase at.Committing plant batch rests first admitted = absurd rests
by_phase at.Copying plant batch rests first admitted = absurd rests
by_phase at.Stopped plant batch rests first admitted = absurd rests

pub returns : goal.returns
returns c = λ phase plant batch rests first admitted. by_phase phase plant batch rests first admitted
