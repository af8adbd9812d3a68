use Rattle.std.proofs.Common.{◌≡◌, ◌<◌, length, nat_eq, Some, refl, sym, ◌∙◌, ap, arith}
use Rattle.std.specs.Prelude.{slice_get, slice_set}
use Rattle.std.proofs.lemmas.Bool.{eqb-true}
use Rattle.std.proofs.lemmas.List.{length-set}
use Rattle.std.proofs.lemmas.Option.{slice_get_read}
use Rattle.alm_model.specs.Keeping.{area_in}
use Rattle.alm_plant.specs.Filing.{Files, AreDistinct}
use Rattle.alm_plant.proofs.Configuring.{chained-configured, scheduled-configured, areas-configured, alone}
use Rattle.alm_plant.proofs.nodes.Nodes.set_attr.Goals as goal

pub invariant_of-self : goal.invariant_of-self
invariant_of-self c =
    let i = c.self.inside in
    let a = c.index-before.result.now in
    let b = c.args.attr in
    let s = c.row_at-row.result.now in
    let rows = ap (λ (f : Files). f.rows) c.self.view_is in
    let here : c.args.index < length i.rows.items = rw rows c.requires.here in
    let there : c.args.index < length i.attrs.items = omega (arith, c.self.invariant.same) in
    let attr = slice_get_read i.attrs.items _ c.args.index a refl there c.index-before.ensures in
    let row : slice_get i.rows.items c.args.index ≡ Some s = ap (λ xs. slice_get xs c.args.index) (sym c.deref.ensures.value) ∙ c.row_at-row.ensures.row in
    let area : a.area ≡ b.area = sym (ap area_in (ap (λ (f : Files). slice_get f.attrs c.args.index) (sym c.self.view_is) ∙ attr)) ∙ c.requires.area in
    let distinct : AreDistinct i.rows.items = rw rows c.requires.distinct in
    record {
      few = c.self.invariant.few;
      same = length-set i.attrs.items c.args.index b ∙ c.self.invariant.same;
      stamped = c.self.invariant.stamped;
      chained = chained-configured i.attrs.items i.rows.items i.chains c.reprioritize.new.chains c.args.index a b s c.deref-2.result.now (nat_eq a.priority b.priority)
          c.self.invariant.chained there here attr row area (λ is. eqb-true a.priority b.priority is) (alone i.rows.items c.args.index s distinct row c.row_at-row.ensures.state) (c.deref-2.ensures.value ∙ c.self.invariant.stamped)
          c.reprioritize.ensures.nodes c.reprioritize.ensures.lists;
      scheduled = scheduled-configured i.attrs.items i.rows.items i.wheel c.args.index a b s c.self.invariant.scheduled there attr row;
    }

pub returns : goal.returns
returns c =
    let areas = areas-configured c.self.inside.chains.families c.reprioritize.new.chains.families _ _ c.reprioritize.ensures.lists in
    let was = ap (λ (f : Files). f.areas) c.self.view_is in
    let rows = ap (λ (f : Files). f.rows) c.self.view_is in
    let attrs = ap (λ (f : Files). slice_set f.attrs c.args.index c.args.attr) c.self.view_is in
    λ j. record { attrs = attrs j; rows = rows j; areas = (areas ∙ was) j }
