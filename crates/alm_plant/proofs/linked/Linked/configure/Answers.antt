use Rattle.std.proofs.Common.{sym, ap, ◌∙◌}
use Rattle.alm_types.specs.declared.attr.Attr.{Attr}
use Rattle.alm_state.specs.Outcome.{attr_after}
use Rattle.alm_model.specs.Keeping.{area_in}
use Rattle.alm_model.specs.Plant.{Condensed}
use Rattle.alm_model.specs.Step.{with_attributes}
use Rattle.alm_model.proofs.Configured.{after_keeps, set-changed}
use Rattle.alm_plant.specs.Filing.{Files}
use Rattle.alm_plant.proofs.Linking.{linked-configured, plant_at, with_floods}
use Rattle.alm_plant.proofs.linked.Linked.configure.Goals as goal

pub set_attr-requires-clause-area : goal.set_attr-requires-clause-area
set_attr-requires-clause-area c =
    ap area_in c.attr.ensures ∙ sym ((after_keeps c.args.action.now).area c.attr.result.now) ∙ sym (ap (λ (a : Attr). a.area) c.attr_after-attr.ensures)

pub invariant_of-self : goal.invariant_of-self
invariant_of-self c =
    let i = c.self.inside in
    let area = ap (λ (a : Attr). a.area) c.attr_after-attr.ensures ∙ (after_keeps c.args.action.now).area c.attr.result.now in
    linked-configured i.count i.next_stamp c.args.id.0 i.nodes c.set_attr.new.self i.measure c.attr.result.now c.attr_after-attr.result c.self.invariant c.attr.ensures area c.set_attr.ensures

pub returns-clause-plant : goal.returns-clause-plant
returns-clause-plant c =
    let i = c.self.inside in
    let f = attr_after c.args.action.now in
    let later = with_attributes c.args.self.now c.args.id.0 f in
    ap (λ (n : Files). plant_at i.count i.next_stamp n i.measure) c.set_attr.ensures
    ∙ ap (λ attrs. plant_at i.count i.next_stamp (record i.nodes { attrs = attrs }) i.measure) (set-changed i.nodes.attrs c.args.id.0 f c.attr.result.now c.attr_after-attr.result c.attr.ensures c.attr_after-attr.ensures)
    ∙ ap (λ (q : Condensed). with_attributes q c.args.id.0 f) c.self.view_is
    ∙ sym (ap (with_floods later) c.requires.settled)
