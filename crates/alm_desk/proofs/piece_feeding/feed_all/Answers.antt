use Rattle.std.proofs.Common.{◌<◌, ◌+◌, ◌∙◌, Err, length, drop, rules, refl, sym, ap}
use Rattle.alm_desk.specs.Desks.{bytes_of_slot}
use Rattle.alm_desk.specs.Pieces.{tag_all}
use Rattle.alm_desk.proofs.Slots.{joined, fed_none, broken_later, only_writer, never_closed}
use Rattle.alm_desk.proofs.Cuts.{tag_all_more, tag_all_split}
use Rattle.alm_desk.proofs.piece_feeding.feed_all.Goals as goal

pub loop-piece-init : goal.loop-piece-init
loop-piece-init g c = record { fed = fed_none _ _ (sym c.if-is_closed.ensures); whole = refl }

pub loop-piece-preserved : goal.loop-piece-preserved
loop-piece-preserved g c =
    let in_range : c.loop-piece.piece-index < length c.args.pieces.now = search rules in
    record {
      fed = rw (tag_all_more c.args.pieces.now c.loop-piece.piece-index c.piece-item.result in_range c.piece-item.is) (joined c.loop-piece.invariant.fed c.in_ok-feed.ensures.fed);
      whole = c.in_ok-feed.ensures.whole ∙ c.loop-piece.invariant.whole;
    }

pub returns-in_err-feed-clause-broken : goal.returns-in_err-feed-clause-broken
returns-in_err-feed-clause-broken g c =
    let in_range : c.loop-piece.piece-index < length c.args.pieces.now = search rules in
    let failed = only_writer c.in_err-feed.field-0.0 _ _ _ _ c.loop-piece.invariant.fed.open_later c.in_err-feed.ensures.fault in
    λ e. rw (tag_all_split c.args.pieces.now c.loop-piece.piece-index c.piece-item.result in_range c.piece-item.is)
    (broken_later (bytes_of_slot c.piece-item.result.slot c.piece-item.result.bytes.now) (tag_all (drop (c.loop-piece.piece-index + 1) c.args.pieces.now)) c.loop-piece.invariant.fed (c.in_err-feed.ensures.broken (ap Err failed)))

pub returns-in_err-feed-clause-fault : goal.returns-in_err-feed-clause-fault
returns-in_err-feed-clause-fault g c = search rules

pub returns-in_err-feed-clause-closed : goal.returns-in_err-feed-clause-closed
returns-in_err-feed-clause-closed g c = never_closed c.from_residual.result _ _ _ _ c.loop-piece.invariant.fed.open_before (returns-in_err-feed-clause-fault g c)
