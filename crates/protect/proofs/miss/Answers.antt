-- Room is made as the rules make it; the load is one order more, and the access is counted as a miss.
use mathlib.Core.Path.{refl}
use native.Mathlib.Omega.{arith}
use Rattle.layout.specs.Picture.{cache_in}
use Rattle.rules.proofs.Effects.{size_most}
use Rattle.room.proofs.Orders.{did_number, words_fit}
use Rattle.protect.proofs.Missed.{load_asks, missed_asks, missed_did, missed_reasons, missed_changes}
use Rattle.protect.proofs.miss.Goals as goal

pub admit-admitted-requires : goal.admit-admitted-requires
admit-admitted-requires c =
    (c.requires.0, size_most c.args.size c.requires.5, words_fit (cache_in c.args.table.now) (cache_in c.args.table.now) c.args.orders.now c.requires.3 refl)

pub load-loaded-requires : goal.load-loaded-requires
load-loaded-requires c =
    let l = load_asks c.args.access c.args.address c.args.size (cache_in c.args.table.now) c.requires.1 c.requires.2 c.requires.6 c.admit-admitted.ensures.did c.requires.0.size c.requires.3 (omega (arith, c.admit-admitted.auto.orders)) in
    (l.0, l.1, l.2, c.requires.4, c.requires.5, omega (arith, l.3))

pub count_access-counted-requires : goal.count_access-counted-requires
count_access-counted-requires c =
    missed_asks c.args.access c.args.address c.args.size (cache_in c.args.table.now) c.requires.1 c.requires.2 c.requires.6 c.admit-admitted.ensures.did c.load-loaded.ensures c.requires.0.size c.requires.3 (omega (arith, c.admit-admitted.auto.orders, c.load-loaded.auto.orders))

pub shape_of-table : goal.shape_of-table
shape_of-table c = omega (arith, c.admit-admitted.auto.table, c.load-loaded.auto.table, c.count_access-counted.auto.table)

pub shape_of-orders : goal.shape_of-orders
shape_of-orders c = omega (arith, c.admit-admitted.auto.orders, c.load-loaded.auto.orders, c.count_access-counted.auto.orders)

pub returns : goal.returns
returns c =
    let a = c.admit-admitted.ensures in
    let n = c.count_access-counted.ensures in
    let e = c.done_by_miss.ensures in
    let l = c.load-loaded.ensures in
    let k = cache_in c.args.table.now in record { did = did_number e.0 (missed_did c.args.access c.args.address c.args.size k c.requires.1 c.requires.2 c.requires.6 a.did l n.did); named = (missed_reasons c.args.access c.args.address c.args.size k c.requires.1 c.requires.2 c.requires.6 a.did l e.1 a.named.0 n.named.0, missed_changes c.args.access c.args.address c.args.size k c.requires.1 c.requires.2 c.requires.6 a.did l e.2 a.named.1 n.named.1) }
