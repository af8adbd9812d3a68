use Rattle.std.proofs.Common.{◌≡◌, ◌∙◌, [], sym, arith, refl}
use Rattle.std.proofs.lemmas.Grind.{common_steps}
use Rattle.alm_lines.proofs.Prefixes.{printed_whole, printed_front, on_err}
use Rattle.alm_desk.proofs.Pieces.{progress_none, progress_line, progress_broken, progress_bytes, progress_all}
use Rattle.alm_desk.proofs.slot_feeding.feed_slot.Goals as goal

pub loop-rest-init : goal.loop-rest-init
loop-rest-init g c = record { progress = progress_none _ _ _ _ _; moment = c.requires; whole = refl }

pub loop-rest-preserved : goal.loop-rest-preserved
loop-rest-preserved g c = record {
  progress = progress_bytes c.loop-rest.invariant.progress c.feed-used.result.0 _ _ c.feed-used.ensures.used (sym c.feed-used.ensures.line ∙ c.in_default.is) c.feed-used.ensures.held (grind (arith, common_steps));
  moment = c.loop-rest.invariant.moment;
  whole = c.loop-rest.invariant.whole;
}

pub returns-clause-fed : goal.returns-clause-fed
returns-clause-fed g c =
    let none : c.loop-rest.rest.now ≡ [] = grind (arith, common_steps) in
    progress_all c.loop-rest.invariant.progress none

pub loop-rest-preserved-in-Continue-1 : goal.loop-rest-preserved-in-Continue-1
loop-rest-preserved-in-Continue-1 g c = record {
  progress = progress_line c.loop-rest.invariant.progress c.feed-used.result.0 c.in-Some.line c.answer_line-told.result.0 _ _ _ _
      c.feed-used.ensures.used (sym c.in-Some.is ∙ c.feed-used.ensures.line) c.feed-used.ensures.held (grind (arith, common_steps)) c.answer_line-told.ensures.standing
      (printed_whole _ _ _ c.answer_line-told.result.1 _ c.in_ok-told.was c.answer_line-told.ensures.text);
  moment = c.answer_line-told.ensures.moment;
  whole = (rw c.in_ok-told.was at c.answer_line-told.ensures.whole) ∙ c.loop-rest.invariant.whole;
}

pub returns-in_err-told-clause-broken : goal.returns-in_err-told-clause-broken
returns-in_err-told-clause-broken g c =
    on_err c.from_residual.result
    (progress_broken c.loop-rest.invariant.progress c.feed-used.result.0 c.in-Some.line c.answer_line-told.result.0 _ _ _ _
    c.feed-used.ensures.used (sym c.in-Some.is ∙ c.feed-used.ensures.line) c.feed-used.ensures.held refl c.answer_line-told.ensures.standing
    (printed_front _ _ _ c.answer_line-told.result.1 _ c.in_err-told.was c.answer_line-told.ensures.text))
