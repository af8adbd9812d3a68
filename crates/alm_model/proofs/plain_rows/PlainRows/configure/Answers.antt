use Rattle.std.proofs.Common.{◌≡◌, List, Some, refl, sym, ap, ◌∙◌, subst}
use Rattle.std.specs.Prelude.{slice_get}
use Rattle.std.specs.Vec.{with_item}
use Rattle.std.proofs.lemmas.Option.{slice_get_read, slice_get_within}
use Rattle.alm_types.specs.declared.attr.Attr.{Attr}
use Rattle.alm_state.specs.Outcome.{attr_after}
use Rattle.alm_model.specs.Keeping.{change}
use Rattle.alm_model.specs.Plain.{plain_plant}
use Rattle.alm_model.specs.Plant.{Condensed}
use Rattle.alm_model.specs.Sound.{IsSound}
use Rattle.alm_model.specs.Step.{with_attributes}
use Rattle.alm_model.proofs.Configured.{after_keeps, admitted-there, set-changed, sound-configured}
use Rattle.alm_model.proofs.plain_rows.PlainRows.configure.Goals as goal

abbrev with_attrs : Condensed → List Attr → Condensed
with_attrs q attrs = record q { panel = record q.panel { attrs = attrs } }

pub invariant_of-self : goal.invariant_of-self
invariant_of-self c =
    let q = plain_plant c.self.inside in
    let f = attr_after c.args.action.now in
    let found = admitted-there c.args.action.now _ _ c.requires.here in
    let here : slice_get q.panel.attrs c.args.id.0 ≡ Some found.0 = ap (λ (p : Condensed). slice_get p.panel.attrs c.args.id.0) c.self.view_is ∙ found.1 in
    let read = slice_get_read q.panel.attrs _ c.args.id.0 c.index.result.now refl (slice_get_within q.panel.attrs c.args.id.0 found.0 here) c.index.ensures in
    let is : (with_item c.self.inside.attrs c.args.id.0 c.attr_after-attr.result).items ≡ change q.panel.attrs c.args.id.0 f = set-changed q.panel.attrs c.args.id.0 f c.index.result.now _ read c.attr_after-attr.ensures in
    subst (λ attrs. IsSound (with_attrs q attrs)) (sym is) (sound-configured q c.args.id.0 f (after_keeps c.args.action.now) c.self.invariant)

pub returns : goal.returns
returns c =
    let q = plain_plant c.self.inside in
    let f = attr_after c.args.action.now in
    let found = admitted-there c.args.action.now _ _ c.requires.here in
    let here : slice_get q.panel.attrs c.args.id.0 ≡ Some found.0 = ap (λ (p : Condensed). slice_get p.panel.attrs c.args.id.0) c.self.view_is ∙ found.1 in
    let read = slice_get_read q.panel.attrs _ c.args.id.0 c.index.result.now refl (slice_get_within q.panel.attrs c.args.id.0 found.0 here) c.index.ensures in
    let is : (with_item c.self.inside.attrs c.args.id.0 c.attr_after-attr.result).items ≡ change q.panel.attrs c.args.id.0 f = set-changed q.panel.attrs c.args.id.0 f c.index.result.now _ read c.attr_after-attr.ensures in
    record { plant = ap (with_attrs q) is ∙ ap (λ (p : Condensed). with_attributes p c.args.id.0 f) c.self.view_is }
