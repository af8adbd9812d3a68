-- What a replay of the segment says of the half.
use Rattle.std.proofs.Common.{◌≡◌, ℕ, ◌+◌, ◌-◌, ◌≤◌, length, Result, Ok, Err, sym, ap, subst, ◌∙◌, arith}
use Rattle.alm_model.specs.Plant.{Condensed}
use Rattle.alm_codec.specs.declared.damage.Damage.{Damage}
use Rattle.alm_segment.specs.Folding.{stored_in, Replays}
use Rattle.alm_segment.proofs.Replays.{replay_done, replay_failed}
use Rattle.alm_segment.proofs.Within.{EndsWithin, ends_within}
use Rattle.alm_checkpoint.specs.declared.device_fault.DeviceFault.TheVariants.{Damaged}
use Rattle.alm_checkpoint.specs.Layouts.{segment_at, half_number}
use Rattle.alm_checkpoint.specs.Opening.{Opened}
use Rattle.alm_checkpoint.specs.Standing.{Spells, end_of}
use Rattle.alm_checkpoint.specs.Restoring.{Holds, HasFrameDamage}

within : (n : ℕ) (end : Result (Condensed × ℕ) ℕ) (plant : Condensed) (left : ℕ) → EndsWithin n end → end ≡ Ok (plant, left) → left ≤ n
within n end plant left h e = subst (EndsWithin n) e h

within_fault : (n : ℕ) (end : Result (Condensed × ℕ) ℕ) (left : ℕ) → EndsWithin n end → end ≡ Err left → left ≤ n
within_fault n end left h e = subst (EndsWithin n) e h

pub held : (o : Opened) (base built plant : Condensed) (result : Result ℕ Damage) (at place : ℕ) → Spells o base → built ≡ base → length o.segment ≡ o.layout.segment → place ≡ segment_at o.layout o.half → result ≡ Ok at
    → Replays (length o.segment) (stored_in o.head.version o.head.epoch built o.segment) result plant → Holds o plant (place + at)
held o base built plant result at place spells same long there e h =
    let d = replay_done (length o.segment) (stored_in o.head.version o.head.epoch built o.segment) result at plant e h in
    let w = within (length o.segment) (stored_in o.head.version o.head.epoch built o.segment) plant d.left (ends_within o.head.version built o.head.epoch built.panel.count o.segment) d.is in
    record {
      base = base;
      spells = spells;
      left = d.left;
      folds = ap (λ (q : Condensed). stored_in o.head.version o.head.epoch q o.segment) (sym same) ∙ d.is;
      gate_is = omega (arith, there, d.place_is, w, long);
    }

pub unheld : (o : Opened) (base built plant : Condensed) (result : Result ℕ Damage) (damage : Damage) (half place : ℕ) → Spells o base → built ≡ base → length o.segment ≡ o.layout.segment → half ≡ half_number o.half → place ≡ segment_at o.layout o.half
    → result ≡ Err damage → Replays (length o.segment) (stored_in o.head.version o.head.epoch built o.segment) result plant → HasFrameDamage o (Damaged half (place + damage.at))
unheld o base built plant result damage half place spells same long numbered there e h =
    let d = replay_failed (length o.segment) (stored_in o.head.version o.head.epoch built o.segment) result damage plant e h in
    let w = within_fault (length o.segment) (stored_in o.head.version o.head.epoch built o.segment) d.0 (ends_within o.head.version built o.head.epoch built.panel.count o.segment) d.1 in
    let at : place + damage.at ≡ end_of o - d.0 = omega (arith, there, d.2, w, long) in
    record {
      base = base;
      spells = spells;
      left = d.0;
      folds = ap (λ (q : Condensed). stored_in o.head.version o.head.epoch q o.segment) (sym same) ∙ d.1;
      is = (λ i. Damaged (numbered i) (at i));
    }
