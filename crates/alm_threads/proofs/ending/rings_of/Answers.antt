use Rattle.std.proofs.Common.{refl}
use Rattle.alm_rings.specs.Batches.{sealed_of}
use Rattle.alm_seq.specs.Sequences.{history_of, live_base, open_of}
use Rattle.alm_threads.proofs.Causes.{legal_in_order}
use Rattle.alm_threads.proofs.ending.rings_of.Goals as goal

pub returns-clause-judged : goal.returns-clause-judged
returns-clause-judged g c =
    let s = c.args.sequencer in
    rw (c.into_ends-inboxes.ensures.inboxes, c.into_ends-inboxes.ensures.ends) (record {
      entries = history_of s;
      sealed = (open_of s, refl);
      legal = c.live-live.ensures.legal;
      wants = c.live-live.ensures.wants;
      serials = c.live-live.ensures.serials;
      in_order = legal_in_order (live_base s) (sealed_of s.ends) (open_of s) c.live-live.ensures.firsts c.live-live.ensures.legal;
    })
