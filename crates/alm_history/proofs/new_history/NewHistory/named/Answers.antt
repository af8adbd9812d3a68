use Rattle.std.proofs.Common.{ap, sym, ◌∙◌}
use Rattle.alm_history.proofs.Steps.{begins_moves}
use Rattle.alm_history.proofs.new_history.NewHistory.named.Goals as goal

pub compare_exchange-found-requires : goal.compare_exchange-found-requires
compare_exchange-found-requires g c =
    let h = c.args.self.head_is in
    let offer = c.plain-offer.ensures in
    let pen = c.no_pen-pen.ensures in (
      ap (λ w. w.tracked) h,
      sym (ap (λ w. w.book) h),
      pen.0 ∙ sym (ap (λ w. w.book) h),
      offer.0,
      rw (ap (λ w. w.key) h, pen.1, offer.3, c.args.self.empty) (begins_moves c.plain-offer.result.ask),
    )
