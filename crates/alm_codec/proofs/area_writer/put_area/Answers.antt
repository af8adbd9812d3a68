use Rattle.std.proofs.Common.{◌∷◌, [], ℕ, ap, subst, ◌∙◌, arith}
use Rattle.std.specs.Prelude.{slice_get, unwrap_or}
use Rattle.alm_codec.specs.Writing.{Wrote}
use Rattle.alm_codec.proofs.Writing.{Wrote-then}
use Rattle.std.proofs.lemmas.Option.{slice_get-get_or}
use Rattle.alm_codec.specs.Image.{words}
use Rattle.alm_codec.proofs.WrittenImage.{area_is}
use Rattle.alm_codec.proofs.area_writer.put_area.Goals as goal

pub returns-clause-text : goal.returns-clause-text
returns-clause-text g c =
    let q = g.P.Alarms.plant c.args.plant.now in
    let two = Wrote-then _ _ _ _ _ _ _ _ c.put-ages_at.ensures.text c.put_ages.ensures.text (omega arith) in
    subst (Wrote c.args.out.now c.put_ages.new.out c.args.at c.put_ages.result)
    (ap (λ (n : ℕ). n ∷ words (unwrap_or (slice_get q.kept.ages c.args.area) [])) c.flag_code.ensures
    ∙ area_is (slice_get q.floods c.args.area) (slice_get q.kept.ages c.args.area) _ _ c.window-flood.ensures.flood (slice_get-get_or q.kept.ages c.args.area [] (omega (arith, c.requires.rules.measured, c.requires.area)))) two
