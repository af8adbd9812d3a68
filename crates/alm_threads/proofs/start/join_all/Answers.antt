use Rattle.std.proofs.Common.{◌∷◌, [], map, arith, length-append}
use Rattle.std.proofs.lemmas.List.{map-append}
use Rattle.alm_threads.specs.Sources.{source_state}
use Rattle.alm_threads.proofs.Accounts.{accounts_snoc}
use Rattle.alm_threads.proofs.Sames.{all_same_snoc}
use Rattle.alm_threads.proofs.start.join_all.Goals as goal

pub loop-handle-preserved : goal.loop-handle-preserved
loop-handle-preserved g c =
    let inv = c.loop-handle.invariant in
    let parts = map (λ h. h.promise.0.value) c.loop-handle.yielded in
    let part = c.in-Some.handle.promise.0.value in
    let end = c.join-end.result in
    let same = all_same_snoc (map (λ p. p.console) parts) c.loop-handle.consoles.items part.console end.console inv.same c.join-end.ensures.0 in
    let accounts = accounts_snoc g.S.Source.did (map (λ p. source_state p.source p.look p.console) parts) c.loop-handle.sources.items c.loop-handle.consoles.items (source_state part.source part.look part.console) end.source end.console inv.accounts c.join-end.ensures.1 in
    let consoles = c.push_reserved.ensures in
    let sources = c.push_reserved-in-loop-handle.ensures in
    record {
      consoles = omega (arith, inv.consoles, consoles.items, length-append c.loop-handle.consoles.items (end.console ∷ []), length-append c.loop-handle.yielded (c.in-Some.handle ∷ []));
      console_room = omega (arith, inv.console_room, consoles.capacity);
      sources = omega (arith, inv.sources, sources.items, length-append c.loop-handle.sources.items (end.source ∷ []), length-append c.loop-handle.yielded (c.in-Some.handle ∷ []));
      source_room = omega (arith, inv.source_room, sources.capacity);
      same = rw (consoles.items, map-append, map-append) same;
      accounts = rw (consoles.items, sources.items, map-append, map-append) accounts;
    }
