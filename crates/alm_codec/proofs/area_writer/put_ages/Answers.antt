use Rattle.std.proofs.Common.{◌≡◌, [], List, ℕ, length, ap, subst, ◌∙◌, arith}
use Rattle.std.specs.Prelude.{slice_get, unwrap_or}
use Rattle.alm_codec.specs.Writing.{Wrote}
use Rattle.alm_codec.proofs.Writing.{Wrote-then, Wrote-nothing}
use Rattle.std.proofs.lemmas.List.{take_all}
use Rattle.alm_codec.specs.Image.{words}
use Rattle.alm_codec.proofs.WrittenImage.{age_is, words-more, ages_full}
use Rattle.alm_codec.proofs.area_writer.put_ages.Goals as goal

pub loop-age-init : goal.loop-age-init
loop-age-init g c = record { end = omega arith; text = Wrote-nothing c.args.out.now c.args.at }

pub put_word-end-requires : goal.put_word-end-requires
put_word-end-requires g c = omega (arith, c.loop-age.invariant.end, c.loop-age-test.true, c.requires.room, ap length c.loop-age.invariant.text.is)

pub loop-age-preserved : goal.loop-age-preserved
loop-age-preserved g c =
    let q = g.P.Alarms.plant c.args.plant.now in
    let ages : List ℕ = unwrap_or (slice_get q.kept.ages c.args.area) [] in
    let all : length ages ≡ 600 = ages_full q c.args.area c.requires.rules c.requires.area in
    record {
      end = omega (arith, c.loop-age.invariant.end, c.put_word-end.ensures.end);
      text = subst (Wrote c.args.out.now c.put_word-end.new.out c.args.at c.put_word-end.result)
          (words-more ages c.loop-age.age c.age.result (omega (arith, all, c.loop-age-test.true)) (c.age.ensures ∙ age_is (slice_get q.kept.ages c.args.area) c.loop-age.age))
          (Wrote-then _ _ _ _ _ _ _ _ c.loop-age.invariant.text c.put_word-end.ensures.text (omega (arith, c.loop-age.invariant.end, c.put_word-end.ensures.end, c.loop-age-test.true, c.requires.room)));
    }

pub returns-clause-end : goal.returns-clause-end
returns-clause-end g c = omega (arith, c.loop-age.invariant.end, c.loop-age-test.false, c.loop-age.auto.age-end)

pub returns-clause-text : goal.returns-clause-text
returns-clause-text g c =
    let q = g.P.Alarms.plant c.args.plant.now in
    let ages : List ℕ = unwrap_or (slice_get q.kept.ages c.args.area) [] in
    let all : length ages ≡ 600 = ages_full q c.args.area c.requires.rules c.requires.area in
    subst (λ list. Wrote c.args.out.now c.loop-age.out c.args.at c.loop-age.end (words list)) (take_all c.loop-age.age ages (omega (arith, all, c.loop-age-test.false))) c.loop-age.invariant.text
