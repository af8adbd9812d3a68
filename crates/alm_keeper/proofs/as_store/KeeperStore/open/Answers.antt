use Rattle.std.proofs.Common.{arith}
use Rattle.alm_keeper.proofs.StoreOpened.{cause_of, if_err}
use Rattle.alm_keeper.proofs.StoreCalls.{opens_by, refused_by, disk_failed}
use Rattle.alm_keeper.proofs.StorePacing.{if_ok, if_ok_both, opened_pace}
use Rattle.alm_keeper.proofs.as_store.KeeperStore.open.Goals as goal

pub returns-clause-opened : goal.returns-clause-opened
returns-clause-opened g c =
    let o = c.open_store.ensures in
    let d = g.D.Disk in
    if_ok_both c.open_store.result o.stands o.opened (λ k stands is. record {
      made = opens_by d.serves c.args.from k.disk k.layout k.half is.made;
      honest = is.honest;
      image = is.image;
      settled = λ honest. (is.settled honest).nothing_pending;
      encodes = λ honest. (k.stored.epoch, (stands honest).0);
      counted = omega (arith, is.counted);
    })

pub returns-clause-refused : goal.returns-clause-refused
returns-clause-refused g c =
    let d = g.D.Disk in
    let disk = c.args.from in
    if_err c.open_store.result c.open_store.ensures.refused (λ e is. record {
      made = refused_by e.0 d.serves disk e.1 is.made.0 is.made.1 is.made.2;
      honest = is.honest;
      no_new_image = is.unwritten;
      failed = disk_failed e.0 (d.failures disk) (d.failures e.1) is.counts;
      cause = λ honest. cause_of (d.state disk) (d.state e.1).bytes e.0 (d.failures disk) (d.failures e.1) (is.unwritten (is.honest honest) (d.state e.1).bytes (g.met.D.Disk.own_image e.1 honest)) (is.bytes honest) is.counts;
    })

pub returns-clause-pace : goal.returns-clause-pace
returns-clause-pace g c = if_ok c.open_store.result c.open_store.ensures.idle (λ k is half. opened_pace k is.0 half)
