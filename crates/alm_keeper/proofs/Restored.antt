-- What a restored plant keeps.
use Rattle.std.proofs.Common.{◌≡◌, ℕ, ◌+◌, ◌^◌, ◌≤◌, List, ◌∷◌, length, Err, refl, sym, ◌∙◌, ap, subst, arith, length-append}
use Rattle.alm_disk.specs.Device.{AreBytes}
use Rattle.alm_model.specs.Plant.{Condensed}
use Rattle.alm_model.specs.Rules.{KeepsRules}
use Rattle.alm_model.proofs.Kept.{run-keeps}
use Rattle.alm_model.proofs.Runs.{run_sizes, run_within}
use Rattle.alm_codec.specs.Image.{IsOf}
use Rattle.alm_segment.specs.Texts.{frames_text, actions_in}
use Rattle.alm_segment.proofs.Found.{found as found_in}
use Rattle.alm_checkpoint.specs.Layouts.{half_at, half_len, segment_at}
use Rattle.alm_checkpoint.specs.Opening.{Opened}
use Rattle.alm_checkpoint.specs.Restoring.{Holds, IsUnrestored}
use Rattle.alm_checkpoint.specs.declared.device_fault.DeviceFault.{DeviceFault}
use Rattle.alm_checkpoint.specs.declared.device_fault.DeviceFault.TheVariants as found
use Rattle.alm_checkpoint.specs.declared.layout.Layout.{Layout}
use Rattle.alm_checkpoint.specs.declared.restore_fault.RestoreFault.TheVariants as unrestored
use Rattle.alm_store.specs.declared.open_fault.OpenFault.{OpenFault}
use Rattle.alm_keeper.specs.declared.opening.Marks.{Marks}
use Rattle.alm_keeper.specs.Opening.{Restores, open_fault, opened_by}

pub record Restored (o : Opened) (plant : Condensed) (gate : ℕ) : Type 0 where
  pub rules : KeepsRules plant
  pub sizes : IsOf o.layout.rows o.layout.areas plant.panel.count plant
  pub count : plant.panel.count ≤ 2 ^ 48
  pub behind : segment_at o.layout o.half ≤ gate
  pub inside : gate + 1 ≤ half_at o.layout o.half + half_len o.layout

pub restored : (o : Opened) (plant : Condensed) (gate : ℕ) → Holds o plant gate → AreBytes o.segment → length o.segment ≡ o.layout.segment → o.head.count ≤ 2 ^ 48 → Restored o plant gate
restored o plant gate h bytes long few =
    let f = found_in o.head.version h.base o.head.epoch h.base.panel.count o.segment (plant, h.left) bytes h.folds in
    let s = run_sizes h.base (actions_in f.frames) h.spells.image.rules.measured in
    let text = frames_text o.head.version o.head.epoch h.base.panel.count f.frames in
    record {
      rules = subst KeepsRules f.runs (run-keeps h.base (actions_in f.frames) h.spells.image.rules f.admitted);
      sizes = subst (λ (q : Condensed). IsOf o.layout.rows o.layout.areas q.panel.count q) f.runs (record { by_rows = s.0 ∙ h.spells.sizes.by_rows; by_areas = s.1 ∙ h.spells.sizes.by_areas; by_count = refl });
      count = subst (λ (q : Condensed). q.panel.count ≤ 2 ^ 48) f.runs (run_within h.base (actions_in f.frames) (omega (arith, h.spells.sizes.by_count, few)) f.admitted);
      behind = omega (arith, h.gate_is, f.left, long, ap length f.parts, length-append text (f.gate ∷ f.tail));
      inside = omega (arith, h.gate_is, f.left, long, ap length f.parts, length-append text (f.gate ∷ f.tail));
    }

-- why a half holds nothing, by the fault of its bytes
pub unrestored_is : (l : Layout) (m : Marks) (image segment : List ℕ) (f : DeviceFault) (result : OpenFault) → result ≡ open_fault f → IsUnrestored (opened_by l m image segment) (unrestored.Damaged f) → Restores l m image segment (Err result)
unrestored_is l m image segment found.Unformatted result is damage = subst (λ (r : OpenFault). Restores l m image segment (Err r)) (sym is) damage
unrestored_is l m image segment (found.Damaged half at) result is damage = subst (λ (r : OpenFault). Restores l m image segment (Err r)) (sym is) damage
