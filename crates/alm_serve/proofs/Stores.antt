-- A server over an open store, as one over its device.
use Rattle.std.proofs.Common.{◌≡◌, ◌∙◌, inl, inr, ℕ, List, Option, Some, map, ap, sym, subst, refl}
use Rattle.std.proofs.Props.{props}
use Rattle.std.proofs.Math.Logic.{∥∥₁_elim}
use Rattle.std.specs.Prelude.{Result, Ok, Err}
use Rattle.std.specs.Io.KnownBytes.{Appends}
use Rattle.std.proofs.KnownBytes.{Appends-trans}
use Rattle.alm_disk.specs.declared.disk.Disk
use Rattle.alm_moments.specs.declared.run_id.RunId
use Rattle.alm_rings.specs.declared.console.Console.{Console}
use Rattle.alm_rings.specs.declared.told.Told
use Rattle.alm_store.specs.declared.store.Store
use Rattle.alm_threads.proofs.Finished.{all_same_self}
use Rattle.alm_threads.specs.Runs.{IsRunOver}
use Rattle.alm_threads.specs.declared.report.RunReport.{RunReport}
use Rattle.alm_threads.specs.declared.run_end.RunEnd.{RunEnd}
use Rattle.alm_threads.specs.declared.storage.Storage.TheVariants as storage
use Rattle.alm_threads.proofs.Closed.{there_is}
use Rattle.alm_serve.specs.declared.serve_fault.ServeFault.TheVariants.{Open, Net, Memory, Storage, Write}
use Rattle.alm_serve.specs.declared.slot_port.SlotPort.{SlotPort}
use Rattle.alm_serve.specs.declared.store_end.StoreEnd.{StoreEnd}
use Rattle.alm_serve.specs.declared.store_end.StoreEnd.TheVariants.{Unserved, Served}
use Rattle.alm_serve.specs.Runs.{AreAllSlots, RunsBy, RunsWhole}
use Rattle.alm_serve.proofs.Cut.{cut_behind}
use Rattle.alm_serve.specs.Serving.{ServeWrites, serving_line, stopped_line}
use Rattle.alm_serve.specs.Stores.{EndWrites, IsRunOfPorts, ServesStore, WritesOf, served_of, cause_of, back_of}

module _ {K D T J : Type 0} (k : Store.Ghosts K D) (d : Disk.Ghosts D) {t : Told.Ghosts T} {j : RunId.Ghosts J} where
  -- the same run, by the consoles of its report
  pub over_on : (store : K) (slots slots' : List ℕ) (consoles : List (Console T t)) (report : RunReport K T J D k d t j) → slots ≡ slots' → IsRunOver k d store slots consoles report → IsRunOver k d store slots' report.consoles.value.items report
  over_on store slots slots' consoles report same over = subst (λ (l : List ℕ). IsRunOver k d store l report.consoles.value.items report) same (record {
    run = over.run;
    same = all_same_self report.consoles.value.items;
    answers = over.answers;
    failed = over.failed;
  })

  -- what is written in all by a run's end
  pub served_writes : {R : Type 0} (name : List ℕ) (old mid new : Option (List ℕ)) (result : Result ℕ _) (run : RunEnd K T J (SlotPort R T) D k d t j) → Appends old mid (serving_line name)
      → EndWrites mid new (k.state run.report.keeper).stored.panel.count result → WritesOf k d name old new (Served result run)
  served_writes name old mid new (Ok count) run first w = Appends-trans old mid new (serving_line name) (stopped_line count) first w
  served_writes name old mid new (Err Write) run first w = cut_behind old mid new (serving_line name) (stopped_line (k.state run.report.keeper).stored.panel.count) first w
  served_writes name old mid new (Err (Open why)) run first w = subst (λ (o : Option (List ℕ)). Appends old o (serving_line name)) (sym w) first
  served_writes name old mid new (Err Net) run first w = subst (λ (o : Option (List ℕ)). Appends old o (serving_line name)) (sym w) first
  served_writes name old mid new (Err Memory) run first w = subst (λ (o : Option (List ℕ)). Appends old o (serving_line name)) (sym w) first
  served_writes name old mid new (Err Storage) run first w = subst (λ (o : Option (List ℕ)). Appends old o (serving_line name)) (sym w) first

module _ {K D T J R : Type 0} (k : Store.Ghosts K D) (d : Disk.Ghosts D) {t : Told.Ghosts T} {j : RunId.Ghosts J} (store : K) (ports : List (SlotPort R T)) (all : AreAllSlots (map (λ port. port.slot) ports)) where
  whole_run : (run : RunEnd K T J (SlotPort R T) D k d t j) → IsRunOfPorts k d store ports run → run.report.storage ≡ storage.Whole → (count : ℕ) → count ≡ (k.state run.report.keeper).stored.panel.count
      → RunsWhole d k.recovers (k.state store).stored (k.disk store) (k.disk run.report.keeper) count
  whole_run run is whole count counted = record {
    slots = map (λ port. port.slot) ports;
    all = all;
    stored = (k.state run.report.keeper).stored;
    counted = counted;
    reports = run.report.slots.items;
    end = run.report.answered whole;
    history = run.report.moments;
    run = is.over.run;
  }

  pub runs_by : (end : StoreEnd K T J (SlotPort R T) D k d t j) → ServesStore k d store ports end → (d.honest (k.disk (back_of k d end)) → k.exhausted (back_of k d end) → k.spent (d.state (k.disk (back_of k d end))))
      → RunsBy d k.recovers k.spent (k.state store).stored (k.disk store) (k.disk (back_of k d end)) (cause_of k d end) (served_of k d end)
  runs_by (Unserved (Open why) back) s spent = absurd (elim s.1 [ inl e ↦ absurd (cc e) | inr e ↦ absurd (cc e) ])
  runs_by (Unserved Net back) s spent = ap k.disk s.0
  runs_by (Unserved Write back) s spent = inl (ap k.disk s.0)
  runs_by (Unserved Memory back) s spent = ap k.disk s.0
  runs_by (Unserved Storage back) s spent = absurd (elim s.1 [ inl e ↦ absurd (cc e) | inr e ↦ absurd (cc e) ])
  runs_by (Served (Ok count) run) s spent = whole_run run s.0 s.1.0 count s.1.1
  runs_by (Served (Err (Open why)) run) s spent = absurd s.1
  runs_by (Served (Err Net) run) s spent = absurd s.1
  runs_by (Served (Err Memory) run) s spent = absurd s.1
  runs_by (Served (Err Write) run) s spent = inr ((k.state run.report.keeper).stored.panel.count, whole_run run s.0 s.1 _ refl)
  runs_by (Served (Err Storage) run) s spent =
      let report = run.report in
      let why = there_is report.cause (report.caused s.1) in (
        why.0,
        why.1,
        record {
          count = (k.state report.keeper).stored.panel.count;
          run = record {
            slots = map (λ port. port.slot) ports;
            all = all;
            stored = (k.state report.keeper).stored;
            counted = refl;
            reports = report.slots.items;
            end = λ other whole. ∥∥₁_elim whole (hlevel props) (λ answered. absurd (cc (sym (report.whole (λ phase. other (cc (why.1, report.stopped phase))) answered) ∙ s.1)));
            history = report.moments;
            run = s.0.over.run;
          };
          failed = λ is honest notspent. s.0.over.failed (why.1 ∙ ap Some is) (λ ex. notspent (spent honest ex));
        },
      )

  pub writes_by : (name : List ℕ) (old new : Option (List ℕ)) (end : StoreEnd K T J (SlotPort R T) D k d t j) → ServesStore k d store ports end → WritesOf k d name old new end
      → ServeWrites (k.disk (back_of k d end) ≡ k.disk store) (RunsWhole d k.recovers (k.state store).stored (k.disk store) (k.disk (back_of k d end))) name old new (served_of k d end)
  writes_by name old new (Unserved (Open why) back) s w = absurd (elim s.1 [ inl e ↦ absurd (cc e) | inr e ↦ absurd (cc e) ])
  writes_by name old new (Unserved Net back) s w = absurd (elim s.1 [ inl e ↦ absurd (cc e) | inr e ↦ absurd (cc e) ])
  writes_by name old new (Unserved Write back) s w = inl (ap k.disk s.0, w)
  writes_by name old new (Unserved Memory back) s w = inr w
  writes_by name old new (Unserved Storage back) s w = w
  writes_by name old new (Served (Ok count) run) s w = w
  writes_by name old new (Served (Err (Open why)) run) s w = absurd s.1
  writes_by name old new (Served (Err Net) run) s w = absurd s.1
  writes_by name old new (Served (Err Memory) run) s w = absurd s.1
  writes_by name old new (Served (Err Write) run) s w = inr ((k.state run.report.keeper).stored.panel.count, whole_run run s.0 s.1 _ refl, w)
  writes_by name old new (Served (Err Storage) run) s w = w
