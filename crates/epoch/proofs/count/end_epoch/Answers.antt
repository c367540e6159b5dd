-- What each step leaves lets the next begin, and all together are the rule.
use native.Mathlib.Omega.{arith}
use Rattle.layout.proofs.Held.{holds_good}
use Rattle.layout.specs.Picture.{cache_in}
use Rattle.epoch.proofs.Laws.{rate_is, resized_good, aged_good, aged_fits, epoch_joins}
use mathlib.Core.Path.{◌∙◌}
use Rattle.room.proofs.Orders.{did_number}
use Rattle.epoch.proofs.Named.{rate_named, epoch_named}
use Rattle.epoch.proofs.count.end_epoch.Goals as goal

pub age_all-requires : goal.age_all-requires
age_all-requires c =
    let d = rate_is (cache_in c.args.table.now) c.hit_rate-rate.result c.hits.result c.accesses.result c.hits.ensures c.accesses.ensures c.hit_rate-rate.ensures c.resize_maximum-resized.ensures.did in
    resized_good c.requires.0 d

pub restart-requires : goal.restart-requires
restart-requires c = holds_good c.age_all.ensures

pub make_room-room-requires : goal.make_room-room-requires
make_room-room-requires c =
    let d = rate_is (cache_in c.args.table.now) c.hit_rate-rate.result c.hits.result c.accesses.result c.hits.ensures c.accesses.ensures c.hit_rate-rate.ensures c.resize_maximum-resized.ensures.did in
    let k = c.age_all.ensures in
    let m = c.restart.ensures in
    (aged_good c.requires.0 d k m, omega arith, aged_fits c.requires.0 d k m c.requires.1 (omega (arith, c.resize_maximum-resized.auto.orders)), tt)

pub ended-requires : goal.ended-requires
ended-requires c = omega (arith, c.resize_maximum-resized.ensures.did.number)

pub shape_of-table : goal.shape_of-table
shape_of-table c = omega (arith, c.resize_maximum-resized.auto.table, c.age_all.auto, c.restart.auto, c.make_room-room.auto.table)

pub shape_of-orders : goal.shape_of-orders
shape_of-orders c = omega (arith, c.resize_maximum-resized.auto.orders, c.make_room-room.auto.orders)

pub returns : goal.returns
returns c =
    let d = rate_is (cache_in c.args.table.now) c.hit_rate-rate.result c.hits.result c.accesses.result c.hits.ensures c.accesses.ensures c.hit_rate-rate.ensures c.resize_maximum-resized.ensures.did in
    let k = c.age_all.ensures in
    let m = c.restart.ensures in
    let e = c.ended.ensures in
    record { did = did_number e.0 (epoch_joins c.requires.0 d k m c.make_room-room.ensures.did); named = (epoch_named c.args.table.now d k m e.1 c.make_room-room.ensures.named, e.2 ∙ rate_named (cache_in c.args.table.now) c.hit_rate-rate.result c.hits.result c.accesses.result c.hits.ensures c.accesses.ensures c.hit_rate-rate.ensures c.resize_maximum-resized.ensures.change) }
