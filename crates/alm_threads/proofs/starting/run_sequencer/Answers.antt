use Rattle.std.proofs.Common.{◌∙◌, rules, sym}
use Rattle.alm_threads.proofs.starting.run_sequencer.Goals as goal

pub returns : goal.returns
returns g c = record {
  inboxes = rw (sym c.new-sequencer.ensures.inboxes) c.sequence.ensures.inboxes;
  ends = search rules;
  base = c.sequence.ensures.base ∙ c.new-sequencer.ensures.new.1;
}
