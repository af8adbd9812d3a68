use Rattle.std.proofs.Common.{◌≡◌, [], ◌∷◌, ◌++◌, length, length-append, arith, ap, sym, ◌∙◌}
use Rattle.std.specs.Prelude.{Some}
use Rattle.logbook.specs.Pages.{Nib}
use Rattle.alm_history.specs.declared.marked.Marked.{Marked}
use Rattle.alm_history.specs.Kept.{added_in, next_key}
use Rattle.alm_history.proofs.Entries.{entries_append, next_key_is}
use Rattle.alm_history.proofs.Steps.{adds_moves, nib_is}
use Rattle.alm_history.proofs.history_writer.HistoryWriter.add.Goals as goal

pub compare_exchange-requires : goal.compare_exchange-requires
compare_exchange-requires g c =
    let i = c.self.invariant in
    let h = i.2 in
    let offer = c.plain-offer.ensures in (
      ap (λ w. w.tracked) h,
      i.0 ∙ sym (ap (λ w. w.book) h),
      i.1 ∙ sym (ap (λ w. w.book) h),
      offer.0,
      rw (ap (λ w. w.key) h, offer.3) (adds_moves c.self.inside.seen.log c.plain-offer.result.ask c.self.inside.pen.nib i.3 (ap (λ (p : Nib). p.right) i.4) (ap (λ (p : Nib). p.key) i.4)),
    )

pub invariant_of-self : goal.invariant_of-self
invariant_of-self g c =
    let i = c.self.invariant in
    let e = c.compare_exchange.ensures in
    let pen = c.take_pen-next.ensures in
    let v = c.self.inside.seen.log in
    let ask = c.plain-offer.result.ask in
    let grown : c.compare_exchange.new.seen.log ≡ v ++ ask ∷ [] = e.7 in
    let key : next_key c.compare_exchange.new.seen.log ≡ c.take_pen-next.result.nib.key = ap next_key grown ∙ (next_key_is v ask ∙ ap (λ (m : Marked _). m.next) c.plain-offer.ensures.1) in (
      e.0 ∙ i.0,
      pen.book ∙ i.0,
      i.2,
      omega (arith, ap length grown, length-append v (ask ∷ [])),
      nib_is c.take_pen-next.result.nib (next_key c.compare_exchange.new.seen.log) pen.pen.0 (sym key) pen.pen.1,
    )

pub returns : goal.returns
returns g c =
    let e = c.compare_exchange.ensures in
    let v = c.self.inside.seen.log in
    let ask = c.plain-offer.result.ask in
    let asked : ask ≡ record { entry = Some (g.M.Adds.entry c.args.about.now); next = c.take_pen-next.result.nib.key } = c.plain-offer.ensures.1 in
    ap added_in e.7 ∙ (entries_append v (ask ∷ []) ∙ (ap (λ m. added_in v ++ added_in (m ∷ [])) asked ∙ ap (λ l. l ++ g.M.Adds.entry c.args.about.now ∷ []) c.self.view_is))
