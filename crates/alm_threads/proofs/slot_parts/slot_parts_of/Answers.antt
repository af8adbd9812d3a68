use Rattle.std.proofs.Common.{◌≡◌, ◌∙◌, ◌++◌, length, map, slice_get, Some, ap, sym, subst, arith}
use Rattle.std.proofs.lemmas.Option.{same_Some}
use Rattle.alm_rings.specs.declared.console.Console.{Console}
use Rattle.alm_threads.specs.declared.slot_parts.SlotParts.{SlotParts}
use Rattle.alm_threads.proofs.Placed.{at_end, none_left}
use Rattle.std.proofs.lemmas.List.{length-map}
use Rattle.alm_threads.proofs.Tied.{numbered}
use Rattle.alm_threads.proofs.slot_parts.slot_parts_of.Goals as goal

pub invariant_of-push_reserved : goal.invariant_of-push_reserved
invariant_of-push_reserved g c =
    let l = c.loop-console in
    let inv = l.invariant in
    let own = c.in-Some.console in
    let sources = map (λ (p : SlotParts _ _ _ _ _ _). p.source) l.slot_parts.items in
    let here = at_end l.yielded _ c.args.consoles.items own (ap (λ r. l.yielded ++ r) (sym c.in-Some.ensures.steps.0) ∙ inv.consoles_left) in
    let there = at_end sources _ c.args.sources.items c.in-Some-Some.source (ap (λ r. sources ++ r) (sym c.in-Some-Some.ensures'.items) ∙ inv.sources_left) in
    let same : length sources ≡ length l.yielded = length-map l.slot_parts.items _ ∙ sym (ap length (sym inv.consoles) ∙ length-map l.slot_parts.items _) in
    record {
      own = λ n is.
          let wanted = subst (λ k. slice_get (map (λ (x : Console _ _). x.slot) c.args.consoles.items) k ≡ Some n) same (c.requires.place (length sources) n c.in-Some-Some.source there is) in
          same_Some own.slot n (sym (numbered (λ (x : Console _ _). x.slot) c.args.consoles.items (length l.yielded) own here) ∙ wanted);
    }

pub returns-clause-consoles : goal.returns-clause-consoles
returns-clause-consoles g c = c.loop-console.invariant.consoles ∙ none_left _ _ _ c.loop-console.invariant.consoles_left (omega (arith, c.in-None.ensures.steps.0, c.loop-console.console-iterator.rest.ok))

all_taken : (g : _) (c : goal.After-drop-looks g) → length c.loop-console.yielded ≡ length c.args.consoles.items
all_taken g c = ap length (none_left c.loop-console.yielded _ c.args.consoles.items c.loop-console.invariant.consoles_left (omega (arith, c.in-None.ensures.steps.0, c.loop-console.console-iterator.rest.ok)))

pub returns-clause-looks : goal.returns-clause-looks
returns-clause-looks g c =
    let inv = c.loop-console.invariant in
    none_left _ _ _ inv.looks_left (omega (arith, inv.looks, all_taken g c))

pub returns-clause-sources : goal.returns-clause-sources
returns-clause-sources g c =
    let inv = c.loop-console.invariant in
    none_left _ _ _ inv.sources_left (omega (arith, inv.sources, all_taken g c))
