use Rattle.std.proofs.Common.{ℕ, List, [], set, get_or, ap}
use Rattle.alm_lists.specs.Lists.{put_by}
use Rattle.alm_links.specs.Lists.{Families, key_at_node}
use Rattle.alm_links.proofs.Chaining.{family_changed}
use Rattle.alm_links.proofs.Inserting.{rises_in}
use Rattle.alm_links.proofs.chains.Chains.insert_by.Goals as goal

pub returns-clause-lists : goal.returns-clause-lists
returns-clause-lists c =
    let lists = ap (λ (f : Families). f.families) c.self.view_is in
    family_changed (λ (ls : List (List ℕ)). set ls c.args.list (put_by (key_at_node c.args.keys.now) c.args.node (get_or ls c.args.list []))) c.self.inside.families.items c.args.self.now.families c.args.family c.index_mut.result.now c.insert_by.new.self
    lists c.requires.family c.index_mut.ensures.value c.insert_by.ensures.lists

pub returns-clause-rises : goal.returns-clause-rises
returns-clause-rises c =
    let lists = ap (λ (f : Families). f.families) c.self.view_is in
    rises_in (key_at_node c.args.keys.now) c.args.node c.args.family c.args.list c.args.self.now.families _ c.requires.family c.requires.list
    (family_changed (λ (ls : List (List ℕ)). set ls c.args.list (put_by (key_at_node c.args.keys.now) c.args.node (get_or ls c.args.list []))) c.self.inside.families.items c.args.self.now.families c.args.family c.index_mut.result.now c.insert_by.new.self
    lists c.requires.family c.index_mut.ensures.value c.insert_by.ensures.lists)
