-- A query is a look of the world.
use Rattle.std.proofs.Common.{◌∙◌, ℕ, Result, Ok, Err, arith}
use Rattle.alm_types.specs.declared.query.Query.{Query}
use Rattle.alm_types.specs.declared.answer.Answer.{Answer}
use Rattle.alm_types.specs.declared.refusal.Refusal.{Refusal}
use Rattle.alm_model.specs.Look.{IsLook}
use Rattle.alm_model.proofs.Runs.{run_count}
use Rattle.alm_disk.specs.declared.disk.Disk
use Rattle.alm_store.specs.declared.store.Store.{Ghosts}
use Rattle.alm_pipeline.specs.World.{World, shown_in}
use Rattle.alm_pipeline.proofs.Shown.{looked_at, was_ok}
use Rattle.alm_stack.specs.declared.stack.StackOver.{StackOver}
use Rattle.alm_stack.specs.Stacks.{LooksThrough, RunsIn}

module _ {K D : Type 0} {g : Ghosts K D} {d : Disk.Ghosts D} where
  pub looks_through : (w : World) (query : Query) (before after : Answer) (s : StackOver K D g d) (result : Result ℕ Refusal) → RunsIn w s → IsLook (shown_in w) query before after result → LooksThrough w query s result
  looks_through w query before after s (Ok count) m is = λ slot.
      let same = is.1 ∙ run_count w.base w.published in
      let i = m.1.1 in (
        ((m.1.0.opened, was_ok _ _ is.0), same),
        (
          m.0,
          (
            looked_at w s.pipeline count (omega (arith, same)) m.1.0,
            record {
              opened = i.opened;
              taking = i.taking;
              sealed = i.sealed;
              free = i.free;
              stage = i.stage;
              stored = i.stored;
              published = i.published;
              taken = i.taken;
              released = i.released;
              received = i.received;
            },
          ),
        ),
      )
  looks_through w query before after s (Err why) m is = m
