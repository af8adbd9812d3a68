use Rattle.std.proofs.Common.{sym, subst}
use Rattle.alm_bench.specs.Stands.{IsSetup, sight}
use Rattle.alm_keeper.specs.AsStore.{StandsFor, IsLastEpoch}
use Rattle.alm_bench.specs.declared.setup.Setup as T
use Rattle.alm_pipeline.specs.Headline.{Headline}
use Rattle.alm_bench.proofs.bench.Bench.images.Goals as goal

pub returns-in-Open : goal.returns-in-Open
returns-in-Open g c = record {
  headline = λ w m.
      let open' = subst (λ (s : T.Setup _ _ _ _). IsSetup w s) c.in-Open.is m in
      subst (λ (s : T.Setup _ _ _ _). Headline StandsFor IsLastEpoch w (sight c.args.self.now.answer.refused s).state) (sym c.in-Open.is) (c.images.ensures.headline open'.1 w open'.0.fits);
}
