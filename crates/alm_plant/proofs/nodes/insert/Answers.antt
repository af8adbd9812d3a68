use Rattle.std.proofs.Common.{map, ◌∙◌}
use Rattle.alm_lists.specs.Lists.{list_without}
use Rattle.alm_links.specs.Lists.{family_at}
use Rattle.alm_plant.proofs.Refiling.{taken_out}
use Rattle.alm_plant.proofs.Places.{family-set_same, set-twice}
use Rattle.alm_plant.proofs.nodes.insert.Goals as goal

pub insert_by-requires-clause-free : goal.insert_by-requires-clause-free
insert_by-requires-clause-free c =
    let old = family_at c.args.chains.now.families c.args.family in
    rw (c.take_out.ensures.lists, family-set_same c.args.chains.now.families c.args.family (map (list_without c.args.node) old) c.requires.family) (taken_out c.args.node old)

pub returns-in-Some-clause-lists : goal.returns-in-Some-clause-lists
returns-in-Some-clause-lists c =
    let fs = c.args.chains.now.families in
    let out = map (list_without c.args.node) (family_at fs c.args.family) in
    let here = family-set_same fs c.args.family out c.requires.family in
    c.insert_by.ensures.lists ∙ rw (c.take_out.ensures.lists, here, c.in-Some.is) (set-twice fs c.args.family out _)

pub returns-in_default-clause-lists : goal.returns-in_default-clause-lists
returns-in_default-clause-lists c = rw c.in_default.is c.take_out.ensures.lists
