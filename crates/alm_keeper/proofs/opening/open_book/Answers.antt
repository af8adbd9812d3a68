use Rattle.std.proofs.Common.{ℕ, List, refl, sym, subst}
use Rattle.alm_disk.specs.Device.{IsImage}
use Rattle.alm_disk.specs.Settled.{IsSettled}
use Rattle.alm_disk.proofs.Images.{settled_image}
use Rattle.alm_keeper.specs.Opening.{OpensAs}
use Rattle.alm_keeper.proofs.Opened.{on_ok}
use Rattle.alm_keeper.proofs.Made.{done_behind, ends_synced, ends_unsynced}
use Rattle.alm_keeper.proofs.opening.open_book.Goals as goal

pub returns-in-Ok-clause-image : goal.returns-in-Ok-clause-image
returns-in-Ok-clause-image g c = λ honest.
    let one = g.D.Disk.state c.sync.new.self in
    let s = c.in-Ok.ensures.syncs honest in
    let settled : IsSettled one one.bytes = record { reads = refl; nothing_pending = s.nothing_pending; sound = s.done } in
    let kept = c.read_book.ensures.only.keeps one.bytes settled in
    on_ok c.read_book.result (IsImage (g.D.Disk.state c.args.disk.now) (g.D.Disk.state c.read_book.new.disk).bytes) (subst (IsImage (g.D.Disk.state c.args.disk.now)) (sym kept.reads) s.one_image)

pub returns-in-Ok-clause-unwritten : goal.returns-in-Ok-clause-unwritten
returns-in-Ok-clause-unwritten g c = λ honest b image.
    let one = g.D.Disk.state c.sync.new.self in
    let s = c.in-Ok.ensures.syncs honest in
    let settled : IsSettled one one.bytes = record { reads = refl; nothing_pending = s.nothing_pending; sound = s.done } in
    let kept = c.read_book.ensures.only.keeps one.bytes settled in
    subst (IsImage (g.D.Disk.state c.args.disk.now)) (sym (settled_image (g.D.Disk.state c.read_book.new.disk) one.bytes b kept image)) s.one_image

pub returns-in-Ok-clause-settled : goal.returns-in-Ok-clause-settled
returns-in-Ok-clause-settled g c = λ honest.
    let one = g.D.Disk.state c.sync.new.self in
    let two = g.D.Disk.state c.read_book.new.disk in
    let s = c.in-Ok.ensures.syncs honest in
    let settled : IsSettled one one.bytes = record { reads = refl; nothing_pending = s.nothing_pending; sound = s.done } in
    let kept = c.read_book.ensures.only.keeps one.bytes settled in
    on_ok c.read_book.result (IsSettled two two.bytes) (record { reads = refl; nothing_pending = kept.nothing_pending; sound = kept.sound })

pub returns-in-Ok-clause-opens : goal.returns-in-Ok-clause-opens
returns-in-Ok-clause-opens g c = λ honest.
    let one = g.D.Disk.state c.sync.new.self in
    let was = c.read_book.ensures.only.honest honest in
    let s = c.in-Ok.ensures.syncs (c.sync.ensures.honest.1 was) in
    let settled : IsSettled one one.bytes = record { reads = refl; nothing_pending = s.nothing_pending; sound = s.done } in
    let kept = c.read_book.ensures.only.keeps one.bytes settled in
    subst (λ (b : List ℕ). OpensAs b c.read_book.result) (sym kept.reads) (c.read_book.ensures.opens one.bytes honest settled (g.met.D.Disk.own_image c.sync.new.self was).bytes (g.met.D.Disk.whole c.sync.new.self was))

pub returns-in-Ok-clause-made : goal.returns-in-Ok-clause-made
returns-in-Ok-clause-made g c = done_behind g.D.Disk.serves c.args.disk.now c.sync.new.self c.read_book.new.disk c.read_book.result c.in-Ok.ensures.serves c.read_book.ensures.made

pub returns-in-Ok-clause-made_back : goal.returns-in-Ok-clause-made_back
returns-in-Ok-clause-made_back g c = ends_synced g.D.Disk.serves c.args.disk.now c.sync.new.self c.read_book.new.disk c.read_book.result c.in-Ok.ensures.serves c.read_book.ensures.made_back

pub returns-in-Err-clause-made_back : goal.returns-in-Err-clause-made_back
returns-in-Err-clause-made_back g c = ends_unsynced g.D.Disk.serves c.args.disk.now c.sync.new.self _ c.in-Err.ensures.serves
