use Rattle.std.proofs.Common.{◌≡◌, ◌∙◌, Some, slice_get, length, map, ap, sym, subst}
use Rattle.alm_rings.specs.declared.console.Console.{Console}
use Rattle.alm_serve.specs.declared.slot_port.SlotPort.{SlotPort}
use Rattle.alm_threads.proofs.Tied.{map_count, numbered}
use Rattle.alm_serve.specs.Ports.{AllAttended}
use Rattle.alm_serve.proofs.Attended.{all_attended, all_talked, attends_any}
use Rattle.alm_serve.proofs.Stores.{over_on}
use Rattle.alm_serve.proofs.serving.run_parts.Goals as goal

pub run_with_bells-requires-clause-place : goal.run_with_bells-requires-clause-place
run_with_bells-requires-clause-place g c κs within = λ k n s at is. subst (λ l. slice_get l k ≡ Some n) c.requires.ports (numbered (λ (p : SlotPort _ _). p.slot) c.args.ports.ports.items k s at ∙ is)

pub returns-in-Ok-clause-run : goal.returns-in-Ok-clause-run
returns-in-Ok-clause-run g c =
    let parts = c.args.parts in
    let ports = c.args.ports.ports.items in
    let e = c.in-Ok.ensures in
    let run = c.in-Ok.run' in
    let store = parts.middle.flusher.store in
    let consoles = run.report.consoles.value.items in
    let count : length ports ≡ length parts.slots.items = sym (map_count (λ (p : SlotPort _ _). p.slot) ports) ∙ ap length c.requires.ports in
    let attended : AllAttended (g.K.Store.state store).stored ports run.sources.items consoles = subst (λ base. AllAttended base ports run.sources.items consoles) parts.middle.base
    (all_attended g.J.RunId.base _ _ (λ a b did. attends_any _ _ _ _ _ _ did.1) ports parts.looks.items parts.consoles.items run.sources.items consoles
    (parts.each_looks ∙ sym count)
    (sym (map_count (λ (x : Console _ _). x.slot) parts.consoles.items) ∙ ap length parts.order ∙ sym count)
    c.requires.new e.accounts) in
    record {
      over = over_on g.K.Store g.K.Device.Disk store parts.slots.items (map (λ (p : SlotPort _ _). p.slot) ports) parts.consoles.items run.report (sym c.requires.ports) e.run;
      attended = attended;
      talked = λ unused. all_talked (g.K.Store.state store).stored ports run.sources.items consoles unused attended;
    }
