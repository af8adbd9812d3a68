use Rattle.std.proofs.Common.{[], ◌∷◌, ap, ◌∙◌}
use Rattle.std.specs.Prelude.{map}
use Rattle.std.proofs.lemmas.List.{map-append}
use Rattle.alm_rings.specs.Ends.{received_of}
use Rattle.alm_session.specs.Sides.{heard_of}
use Rattle.alm_session.proofs.Drained.{drained_none, drained_one}
use Rattle.alm_session.proofs.draining.drop_one.Goals as goal

pub returns-in-Some-clause-drained : goal.returns-in-Some-clause-drained
returns-in-Some-clause-drained g c =
    drained_one _ _ _ _ _ (heard_of c.in-Some.receipt) (ap (map heard_of) c.in-Some.ensures.some ∙ map-append heard_of (received_of c.args.console.now) (c.in-Some.receipt ∷ [])) c.learn.ensures.later c.learn.ensures.told

pub returns-in-None-clause-drained : goal.returns-in-None-clause-drained
returns-in-None-clause-drained g c = drained_none _ _ _ _ (ap (map heard_of) c.in-None.ensures.none.0)
