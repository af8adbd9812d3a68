use Rattle.std.proofs.Common.{◌<◌, ◌∙◌, length, rules, ap, subst}
use Rattle.std.specs.Io.KnownBytes.{Appends}
use Rattle.alm_lines.specs.Since.{event_text}
use Rattle.alm_lines.proofs.Flattened.{wrote_more, cut_in_item}
use Rattle.alm_lines.proofs.Prefixes.{prints_err, cut_same}
use Rattle.alm_lines.proofs.events.print_events.Goals as goal

pub returns-in_err-put_parts : goal.returns-in_err-put_parts
returns-in_err-put_parts g c =
    let in_range : c.loop-event.event-index < length c.args.events.now = search rules in
    let cut = cut_same _ (c.event_parts.ensures.text ∙ ap event_text c.event-item.is) c.in_err-put_parts.ensures in
    prints_err _ c.from_residual.ensures.0 (cut_in_item event_text c.args.events.now c.loop-event.event-index _ _ _ _ in_range c.loop-event.invariant cut)

pub loop-event-preserved : goal.loop-event-preserved
loop-event-preserved g c =
    let in_range : c.loop-event.event-index < length c.args.events.now = search rules in
    let more = subst (λ t. Appends (g.W.Write.contents c.loop-event.writer) (g.W.Write.contents c.put_parts.new.writer) t) (c.event_parts.ensures.text ∙ ap event_text c.event-item.is) c.in_ok-put_parts.ensures in
    wrote_more event_text c.args.events.now c.loop-event.event-index _ _ _ _ in_range c.loop-event.invariant more
