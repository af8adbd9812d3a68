use Rattle.std.proofs.Common.{List, sym, subst}
use Rattle.alm_codec.specs.declared.asked.Asked.{Asked}
use Rattle.alm_codec.specs.Frames.{asked_actions}
use Rattle.alm_model.specs.Rules.{AllAdmitted}
use Rattle.alm_model.proofs.Runs.{all_admitted}
use Rattle.alm_keeper.proofs.Order.{commits}
use Rattle.alm_keeper.proofs.book.Book.store.Goals as goal

pub apply_asked-requires : goal.apply_asked-requires
apply_asked-requires c =
    let b = c.args.self.now in
    subst (λ (l : List Asked). AllAdmitted b.stored (asked_actions l)) (sym c.deref.ensures.value)
    (all_admitted b.stored (asked_actions b.actions.items) (commits b c.requires.in_order c.requires.working c.requires.commit).admitted)
