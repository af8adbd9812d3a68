use Rattle.std.proofs.Common.{◌++◌}
use Rattle.std.specs.Prelude.{codes, length}
use Rattle.std.specs.List.{flat_map}
use Rattle.std.proofs.KnownBytes.{Appends-trans}
use Rattle.alm_lines.specs.Since.{event_text, since_head}
use Rattle.alm_lines.proofs.Prefixes.{prints_err, prints_then, cut_in_first, cut_in_second}
use Rattle.alm_lines.proofs.events.print_since.Goals as goal

pub returns-in_err-put_parts : goal.returns-in_err-put_parts
returns-in_err-put_parts g c =
    let events = flat_map event_text c.args.events.now in
    let cut = rw c.since_head.ensures.text at c.in_err-put_parts.ensures in
    prints_err _ c.from_residual.ensures.0 (cut_in_first (cut_in_first cut events) (codes "\n"))

pub returns-in_err-print_events : goal.returns-in_err-print_events
returns-in_err-print_events g c =
    let head = since_head c.args.id c.args.n c.args.first (length c.args.events.now) in
    let first = rw c.since_head.ensures.text at c.in_ok-put_parts.ensures in
    prints_err _ c.from_residual-in_err-print_events.ensures.0 (cut_in_first (cut_in_second head first c.in_err-print_events.ensures) (codes "\n"))

pub returns : goal.returns
returns g c =
    let events = flat_map event_text c.args.events.now in
    let head = since_head c.args.id c.args.n c.args.first (length c.args.events.now) in
    let first = rw c.since_head.ensures.text at c.in_ok-put_parts.ensures in
    prints_then _ _ (head ++ events) (Appends-trans _ _ _ head events first c.in_ok-print_events.ensures) _ (codes "\n") _ c.put.ensures
