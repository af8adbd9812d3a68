-- A sequencer may go to another thread if its plant may: what it knows of the plant that it began with is no value of the program.
use denote.Builtin
use denote.RattleType.{RattleType}
use denote.Param.Send.{IsSend, array_send, plain_send, recorded_send, struct_send}
use denote.Struct.Declared
use Rattle.alm_model.specs.declared.alarms.Alarms.{Ghosts}
use Rattle.alm_rings.proofs.inbox.Inbox.TheSendSync as inbox
use Rattle.alm_rings.proofs.seal_ends.SealEnds.TheSendSync as ends
use Rattle.alm_rings.specs.contracts.inbox.Inbox
use Rattle.alm_seq.specs.contracts.sequencer.Sequencer
use Rattle.alm_types.proofs.batch.Batch.TheSendSync as batch
use Rattle.alm_types.specs.contracts.batch.Batch
use Rattle.std.specs.contracts.snapshot.Snapshot
use Rattle.std.below.std_heap.proofs.GlobalAllocator.TheSendSync as allocator
use Rattle.std.proofs.alloc.Global.TheSendSync as global
use Rattle.std.proofs.option.Option.TheSendSync as option
use Rattle.std.proofs.vec.Vec.TheSendSync as vec
use Rattle.std.specs.contracts.alloc.Global
use Rattle.std.specs.contracts.impls.GlobalAllocator.TheImpl

-- a snapshot owns nothing
snapshot_send : (T : RattleType) → IsSend (Snapshot.the_field T).row
snapshot_send T = record { owned = λ d vs. ((λ vss. (tt, ((λ uss. (tt, tt)), tt))), tt); leaving = λ k f vs. tt }

pub sequencer_send : (P : RattleType) (g : Ghosts P.Denot) → IsSend P → IsSend (Sequencer.the_row P g)
sequencer_send P g send =
    recorded_send (Sequencer.the_field P g).row _ _ (Sequencer.the_type P g).to_one (struct_send (Declared.shape (Sequencer.the_type P g)) (
      vec.the_send Inbox.the_row Global.the_row TheImpl.ghosts inbox.the_send global.the_send allocator.the_frees,
      (
        array_send Builtin.usize 18 (plain_send _ _ _ _ _),
        (
          ends.the_field_send,
          (batch.the_send, (option.the_field_send Batch.the_row batch.the_send, (send, (snapshot_send P, tt)))),
        ),
      ),
    ))
