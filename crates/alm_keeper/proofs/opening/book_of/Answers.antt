use Rattle.std.proofs.Common.{rules, arith, ◌∙◌, ap, subst}
use Rattle.alm_checkpoint.specs.declared.restore_fault.RestoreFault.{RestoreFault}
use Rattle.alm_checkpoint.specs.Restoring.{IsUnrestored}
use Rattle.alm_keeper.specs.Opening.{opened_by, open_fault}
use Rattle.alm_keeper.proofs.Restored.{restored, unrestored_is}
use Rattle.alm_keeper.proofs.opening.book_of.Goals as goal

pub returns-clause-in_order : goal.returns-clause-in_order
returns-clause-in_order c =
    let o = opened_by c.args.layout c.args.marks c.args.text.now c.args.segment.now in
    let r = restored o c.in-Ok-restore.found.0 c.in-Ok-restore.found.1 c.in-Ok-restore.ensures.holds (λ i. omega (arith, c.type_inv.segment i)) c.requires.segment c.requires.count in
    record {
      layout = c.requires.limits;
      small = c.requires.small;
      rules = r.rules;
      sizes = r.sizes;
      count = r.count;
      first = r.behind;
      gate = r.inside;
      room = search rules;
      frame = c.fill_to.ensures.long (search rules);
      frame_room = search rules;
      buffer = search rules;
      does = search rules;
      copy = tt;
    }

pub returns-in-Err-Damaged-clause-restores : goal.returns-in-Err-Damaged-clause-restores
returns-in-Err-Damaged-clause-restores c = unrestored_is c.args.layout c.args.marks c.args.text.now c.args.segment.now c.in-Err-Damaged.fault c.open_fault.result (c.open_fault.ensures ∙ ap open_fault c.in-Err-Damaged.fault-is) (subst (λ (r : RestoreFault). IsUnrestored (opened_by c.args.layout c.args.marks c.args.text.now c.args.segment.now) r) c.in-Err-Damaged.field-0-is c.in-Err-Damaged.ensures.damage)
