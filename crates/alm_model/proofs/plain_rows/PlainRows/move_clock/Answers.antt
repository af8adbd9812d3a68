use Rattle.std.proofs.Common.{arith, ◌≡◌, ◌-◌, map, sym, subst, List, ℕ}
use Rattle.std.proofs.lemmas.Grind.{common_steps}
use Rattle.std.specs.Vec.{with_items}
use Rattle.alm_model.proofs.Soundness.{IsSound-later}
use Rattle.alm_model.specs.Step.{later}
use Rattle.alm_model.specs.Keeping.{ages_after, in_brief}
use Rattle.alm_model.specs.Sound.{IsSound}
use Rattle.alm_model.specs.Plain.{plain_plant}
use Rattle.alm_model.proofs.plain_rows.PlainRows.move_clock.Goals as goal

pub invariant_of-self : goal.invariant_of-self
invariant_of-self c =
    let q = plain_plant c.self.inside in
    let is : (with_items c.self.inside.ages c.advance_all.new.areas).items ≡ map (ages_after (c.args.moment - q.panel.now)) q.kept.ages = grind (arith, common_steps) in
    let P : List (List ℕ) → Type 0 = λ ages. IsSound (record (later in_brief c.args.moment q) { kept = record { ages = ages; moments = q.kept.moments } }) in
    subst P (sym is) (IsSound-later c.args.moment q c.self.invariant)
