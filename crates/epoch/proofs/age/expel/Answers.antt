use mathlib.Core.Path.{refl}
use Rattle.layout.proofs.Held.{holds_cache}
use Rattle.room.proofs.Kept.{gave, kept_good, is_so, is_not}
use Rattle.epoch.proofs.Aging.{aging_start, within, evicts_one, writes_one, aging_young, aging_dirty, aging_evict, aging_write, aging_end, aging_in}
use native.Mathlib.Omega.{arith}
use mathlib.Core.Path.{ap}
use mathlib.Core.Bool.{not}
use Rattle.epoch.proofs.age.expel.Goals as goal

pub loop-pos-init : goal.loop-pos-init
loop-pos-init c = (aging_start c.args.epochs c.requires.0 c.requires.1 c.requires.2 c.listed_len-listed.ensures, refl, refl)

pub aged_at-requires : goal.aged_at-requires
aged_at-requires c =
    let k = c.loop-pos.invariant.0 in
    (kept_good k.kept, within k (omega arith))

pub overflow_add-pos : goal.overflow_add-pos
overflow_add-pos c =
    let k = c.loop-pos.invariant.0 in
    omega (arith, k.listed_is, k.kept.did.holds.listed, k.kept.did.holds.steady.rows)

pub loop-pos-smaller-then-not-aged_at : goal.loop-pos-smaller-then-not-aged_at
loop-pos-smaller-then-not-aged_at c = omega arith

pub loop-pos-preserved-then-not-aged_at : goal.loop-pos-preserved-then-not-aged_at
loop-pos-preserved-then-not-aged_at c =
    let l = c.loop-pos in
    (aging_young l.invariant.0 (omega arith) (is_not c.aged_at.ensures (ap not c.if-not-aged_at.true)), l.invariant.1, l.invariant.2)

pub dirty_at-requires : goal.dirty_at-requires
dirty_at-requires c =
    let k = c.loop-pos.invariant.0 in
    (kept_good k.kept, within k (omega arith))

pub evict_at-requires : goal.evict_at-requires
evict_at-requires c =
    let l = c.loop-pos in
    let k = l.invariant.0 in
    (kept_good k.kept, within k (omega arith), omega (arith, k.kept.fits, l.invariant.2, evicts_one k (omega arith) (is_not c.dirty_at.ensures (ap not c.if-not-dirty_at.true))))

pub overflow_add-given : goal.overflow_add-given
overflow_add-given c =
    let l = c.loop-pos in
    let k = l.invariant.0 in
    omega (arith, k.kept.fits, l.invariant.2, c.well_formed.1.0, evicts_one k (omega arith) (is_not c.dirty_at.ensures (ap not c.if-not-dirty_at.true)))

pub overflow_sub-listed : goal.overflow_sub-listed
overflow_sub-listed c = omega arith

pub loop-pos-smaller-then-not-dirty_at : goal.loop-pos-smaller-then-not-dirty_at
loop-pos-smaller-then-not-dirty_at c =
    let k = c.loop-pos.invariant.0 in
    rw (holds_cache c.evict_at.ensures.holds) (omega (arith, evicts_one k (omega arith) (is_not c.dirty_at.ensures (ap not c.if-not-dirty_at.true))))

pub loop-pos-preserved-then-not-dirty_at : goal.loop-pos-preserved-then-not-dirty_at
loop-pos-preserved-then-not-dirty_at c =
    let l = c.loop-pos in (
      aging_in (aging_evict l.invariant.0 (omega arith) (is_so c.aged_at.ensures (ap not c.if-not-aged_at.false)) (is_not c.dirty_at.ensures (ap not c.if-not-dirty_at.true)) (gave c.evict_at.ensures)),
      omega (arith, c.evict_at.auto.table, l.invariant.1),
      omega (arith, c.evict_at.auto.orders, l.invariant.2),
    )

pub write_at-requires : goal.write_at-requires
write_at-requires c =
    let l = c.loop-pos in
    let k = l.invariant.0 in
    (kept_good k.kept, within k (omega arith), omega (arith, k.kept.fits, l.invariant.2, writes_one k (omega arith) (is_so c.dirty_at.ensures (ap not c.if-not-dirty_at.false))))

pub overflow_add-given-then-writes : goal.overflow_add-given-then-writes
overflow_add-given-then-writes c =
    let l = c.loop-pos in
    let k = l.invariant.0 in
    omega (arith, k.kept.fits, l.invariant.2, c.well_formed.1.0, writes_one k (omega arith) (is_so c.dirty_at.ensures (ap not c.if-not-dirty_at.false)))

pub loop-pos-smaller-then-writes : goal.loop-pos-smaller-then-writes
loop-pos-smaller-then-writes c =
    let k = c.loop-pos.invariant.0 in
    rw (holds_cache c.write_at.ensures.holds) (omega (arith, writes_one k (omega arith) (is_so c.dirty_at.ensures (ap not c.if-not-dirty_at.false))))

pub loop-pos-preserved-then-writes : goal.loop-pos-preserved-then-writes
loop-pos-preserved-then-writes c =
    let l = c.loop-pos in (
      aging_in (aging_write l.invariant.0 (omega arith) c.if-writes.true (is_so c.aged_at.ensures (ap not c.if-not-aged_at.false)) (is_so c.dirty_at.ensures (ap not c.if-not-dirty_at.false)) (gave c.write_at.ensures)),
      omega (arith, c.write_at.auto.table, l.invariant.1),
      omega (arith, c.write_at.auto.orders, l.invariant.2),
    )

pub overflow_add-pos-else-writes : goal.overflow_add-pos-else-writes
overflow_add-pos-else-writes c =
    let k = c.loop-pos.invariant.0 in
    omega (arith, k.listed_is, k.kept.did.holds.listed, k.kept.did.holds.steady.rows)

pub loop-pos-smaller : goal.loop-pos-smaller
loop-pos-smaller c = omega arith

pub loop-pos-preserved : goal.loop-pos-preserved
loop-pos-preserved c =
    let l = c.loop-pos in
    (aging_dirty l.invariant.0 (omega arith) c.if-writes.false (is_so c.aged_at.ensures (ap not c.if-not-aged_at.false)) (is_so c.dirty_at.ensures (ap not c.if-not-dirty_at.false)), l.invariant.1, l.invariant.2)

pub shape_of-table : goal.shape_of-table
shape_of-table c =
    let l = c.loop-pos in
    omega (arith, l.invariant.1, l.invariant.2)

pub shape_of-orders : goal.shape_of-orders
shape_of-orders c =
    let l = c.loop-pos in
    omega (arith, l.invariant.1, l.invariant.2)

pub returns : goal.returns
returns c = aging_end c.loop-pos.invariant.0 (omega arith)
