use Rattle.std.proofs.Common.{rules, ◌≡◌, ◌+◌, ◌*◌, length, take, List, ℕ, All, arith, refl, sym, ap, subst, ◌∙◌}
use Rattle.alm_types.specs.declared.entry.Entry.{Entry}
use Rattle.alm_model.specs.Judging.{accepted_of}
use Rattle.alm_model.specs.Plant.{Condensed}
use Rattle.alm_codec.specs.declared.asked.Asked.{Asked}
use Rattle.alm_codec.specs.Frames.{IsFrame, frame_body}
use Rattle.alm_codec.specs.Versions.{IsSaid}
use Rattle.alm_store.specs.Advancing.{IsResting}
use Rattle.alm_keeper.specs.Stages.{phase_of}
use Rattle.alm_keeper.specs.Batch.{TriesAll}
use Rattle.alm_keeper.specs.Keeping.{account}
use Rattle.alm_keeper.specs.declared.book.Book.{Book}
use Rattle.alm_keeper.specs.declared.stage.Stage.TheVariants.{Body}
use Rattle.alm_keeper.specs.declared.stage.Work.TheVariants.{Commit}
use Rattle.alm_keeper.proofs.Order.{rests, still_copying}
use Rattle.alm_keeper.proofs.Tried.{asked_few, asked_long, committing}
use Rattle.alm_keeper.proofs.book.Book.begin.Goals as goal

pub write_frame-requires-clause-some : goal.write_frame-requires-clause-some
write_frame-requires-clause-some c =
    let t = c.in_default.ensures.tries in
    omega (arith, c.requires.some, asked_long c.args.self.now.version c.entries.result.now, ap length t.asked, ap length c.deref.ensures.value, ap (λ (l : List Entry). length (accepted_of l)) c.entries.ensures.entries)

pub write_frame-requires-clause-few : goal.write_frame-requires-clause-few
write_frame-requires-clause-few c =
    let t = c.in_default.ensures.tries in
    omega (arith, asked_few c.args.self.now.version c.entries.result.now, ap length t.asked, ap length c.deref.ensures.value, c.entries.ensures.limit)

pub returns-clause-in_order : goal.returns-clause-in_order
returns-clause-in_order c =
    let b = c.args.self.now in
    let i = c.requires.in_order in
    let asked = c.try_all.new.actions.items in
    let resting : IsResting (phase_of b.stage b.work) = search rules in
    let new : Book = record b { stage = Body; work = Commit; ahead = c.try_all.new.plant; actions = c.try_all.new.actions; frame = c.write_frame.new.frame } in
    let tries : TriesAll b.version b.stored c.try_all.new.plant c.args.batch.now.entries asked =
    subst (λ (q : Condensed). TriesAll b.version q c.try_all.new.plant c.args.batch.now.entries asked) (rests b resting i)
    (subst (λ l. TriesAll b.version b.ahead c.try_all.new.plant l asked) c.entries.ensures.entries c.in_default.ensures.tries) in
    let first : c.count-2.result + 1 ≡ b.stored.panel.count + 1 = ap (λ (n : ℕ). n + 1) c.count-2.ensures in
    let spells : All (IsSaid b.version) asked → IsFrame b.version b.epoch (b.stored.panel.count + 1) asked =
    λ said. subst (λ (n : ℕ). IsFrame b.version b.epoch n asked) first
    (subst (λ (l : List Asked). IsFrame b.version b.epoch (c.count-2.result + 1) l) c.deref.ensures.value (c.write_frame.ensures.limits (subst (All (IsSaid b.version)) (sym c.deref.ensures.value) said))) in
    let text : take (19 + 16 * length asked) c.write_frame.new.frame.items ≡ frame_body b.version b.epoch (b.stored.panel.count + 1) asked =
    ap (λ (l : List Asked). take (19 + 16 * length l) c.write_frame.new.frame.items) (sym c.deref.ensures.value) ∙ c.write_frame.ensures.text ∙ (λ j. frame_body b.version b.epoch (first j) (c.deref.ensures.value j)) in
    record {
      layout = i.layout;
      small = i.small;
      rules = i.rules;
      sizes = i.sizes;
      count = i.count;
      first = i.first;
      gate = i.gate;
      room = c.try_all.ensures.room ∙ c.clear.ensures.capacity ∙ i.room;
      frame = c.write_frame.ensures.long;
      frame_room = c.write_frame.ensures.room ∙ i.frame_room;
      buffer = i.buffer;
      does = committing (account b) c.args.batch.now.entries asked c.write_frame.new.frame.items c.try_all.new.plant tries c.requires.takes spells text;
      copy = still_copying b i resting new refl;
    }
