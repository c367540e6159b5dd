use mathlib.Core.Path.{refl}
use Rattle.layout.proofs.Held.{holds_cache}
use Rattle.clean_share.proofs.Finding.{held_fits}
use Rattle.room.proofs.Kept.{gave, kept_good, is_so, is_not, still_lacking, no_longer_lacking}
use Rattle.room.proofs.Making.{making_start, within, size_held, evicts_one, turns_one, making_skip, making_turn, making_evict, making_enough, making_nothing, making_in}
use native.Mathlib.Omega.{arith}
use mathlib.Core.Path.{ap}
use mathlib.Core.Bool.{not}
use Rattle.room.proofs.pass.evict_until.Goals as goal

pub loop-table-init : goal.loop-table-init
loop-table-init c = (
  making_start c.args.alone c.args.size c.args.row c.requires.0 c.requires.2
      (record { maximum_is = c.maximum-maximum.ensures; held_is = c.held_now-held.ensures; free_is = c.has_free-free.ensures; listed_is = c.listed_len-listed.ensures }),
  refl,
  refl,
)

pub overflow_add-held : goal.overflow_add-held
overflow_add-held c =
    let k = c.loop-table.invariant.0 in
    omega (arith, held_fits (kept_good k.kept), k.figures.held_is, c.requires.1)

pub dirty_at-requires : goal.dirty_at-requires
dirty_at-requires c =
    let k = c.loop-table.invariant.0 in
    (kept_good k.kept, within k (omega arith))

pub evict_at-held-requires : goal.evict_at-held-requires
evict_at-held-requires c =
    let k = c.loop-table.invariant.0 in
    (kept_good k.kept, within k (omega arith), omega (arith, k.kept.fits, c.loop-table.invariant.2, evicts_one c.loop-table.invariant.0 (omega arith) (is_not c.dirty_at.ensures (ap not c.if-not-dirty_at.true))))

pub overflow_sub-held : goal.overflow_sub-held
overflow_sub-held c = omega (arith, c.evict_at-held.ensures.size, size_held c.loop-table.invariant.0 (omega arith))

pub overflow_sub-listed : goal.overflow_sub-listed
overflow_sub-listed c = omega arith

pub overflow_add-given : goal.overflow_add-given
overflow_add-given c =
    omega (arith, c.loop-table.invariant.0.kept.fits, c.loop-table.invariant.2, c.well_formed.1.0, evicts_one c.loop-table.invariant.0 (omega arith) (is_not c.dirty_at.ensures (ap not c.if-not-dirty_at.true)))

pub loop-table-smaller-then-not-dirty_at : goal.loop-table-smaller-then-not-dirty_at
loop-table-smaller-then-not-dirty_at c = rw (holds_cache c.evict_at-held.ensures.holds) (omega (arith, evicts_one c.loop-table.invariant.0 (omega arith) (is_not c.dirty_at.ensures (ap not c.if-not-dirty_at.true))))

pub loop-table-preserved-then-not-dirty_at : goal.loop-table-preserved-then-not-dirty_at
loop-table-preserved-then-not-dirty_at c = (
  making_in (making_evict c.loop-table.invariant.0 (omega arith) (still_lacking c.loop-table.invariant.0.figures c.args.size c.args.row c.lacks.ensures (ap not c.if-not-lacks.false)) (is_not c.dirty_at.ensures (ap not c.if-not-dirty_at.true)) (gave c.evict_at-held.ensures)),
  omega (arith, c.evict_at-held.auto.table, c.loop-table.invariant.1),
  omega (arith, c.evict_at-held.auto.orders, c.loop-table.invariant.2),
)

pub turn_tail-requires : goal.turn_tail-requires
turn_tail-requires c =
    let k = c.loop-table.invariant.0 in
    (kept_good k.kept, omega (arith, within k (omega arith)), omega (arith, k.kept.fits, c.loop-table.invariant.2, turns_one c.loop-table.invariant.0 c.if-alone.true (omega arith) (is_so c.dirty_at.ensures (ap not c.if-not-dirty_at.false))))

pub overflow_add-given-then-alone : goal.overflow_add-given-then-alone
overflow_add-given-then-alone c =
    omega (arith, c.loop-table.invariant.0.kept.fits, c.loop-table.invariant.2, c.well_formed.1.0, turns_one c.loop-table.invariant.0 c.if-alone.true (omega arith) (is_so c.dirty_at.ensures (ap not c.if-not-dirty_at.false)))

pub loop-table-smaller-then-alone : goal.loop-table-smaller-then-alone
loop-table-smaller-then-alone c = rw (holds_cache c.turn_tail.ensures.holds) (omega (arith, turns_one c.loop-table.invariant.0 c.if-alone.true (omega arith) (is_so c.dirty_at.ensures (ap not c.if-not-dirty_at.false))))

pub loop-table-preserved-then-alone : goal.loop-table-preserved-then-alone
loop-table-preserved-then-alone c = (
  making_in (making_turn c.loop-table.invariant.0 (omega arith) (still_lacking c.loop-table.invariant.0.figures c.args.size c.args.row c.lacks.ensures (ap not c.if-not-lacks.false)) c.if-alone.true (is_so c.dirty_at.ensures (ap not c.if-not-dirty_at.false)) (gave c.turn_tail.ensures)),
  omega (arith, c.turn_tail.auto.table, c.loop-table.invariant.1),
  omega (arith, c.turn_tail.auto.orders, c.loop-table.invariant.2),
)

pub overflow_add-pos : goal.overflow_add-pos
overflow_add-pos c =
    let k = c.loop-table.invariant.0 in
    omega (arith, k.figures.listed_is, k.kept.did.holds.listed, k.kept.did.holds.steady.rows)

pub loop-table-smaller : goal.loop-table-smaller
loop-table-smaller c = omega arith

pub loop-table-preserved : goal.loop-table-preserved
loop-table-preserved c =
    (making_skip c.loop-table.invariant.0 c.if-alone.false (omega arith) (is_so c.dirty_at.ensures (ap not c.if-not-dirty_at.false)), c.loop-table.invariant.1, c.loop-table.invariant.2)

pub shape_of-table-then-not-lacks : goal.shape_of-table-then-not-lacks
shape_of-table-then-not-lacks c = omega (arith, c.loop-table.invariant.1)

pub shape_of-orders-then-not-lacks : goal.shape_of-orders-then-not-lacks
shape_of-orders-then-not-lacks c = omega (arith, c.loop-table.invariant.2)

pub returns-then-not-lacks : goal.returns-then-not-lacks
returns-then-not-lacks c =
    let k = c.loop-table.invariant.0 in
    making_enough k (no_longer_lacking k.figures c.args.size c.args.row c.lacks.ensures (ap not c.if-not-lacks.true))

pub shape_of-table-then-listed-pos : goal.shape_of-table-then-listed-pos
shape_of-table-then-listed-pos c = omega (arith, c.loop-table.invariant.1)

pub shape_of-orders-then-listed-pos : goal.shape_of-orders-then-listed-pos
shape_of-orders-then-listed-pos c = omega (arith, c.loop-table.invariant.2)

pub returns-then-listed-pos : goal.returns-then-listed-pos
returns-then-listed-pos c = making_nothing c.loop-table.invariant.0 (still_lacking c.loop-table.invariant.0.figures c.args.size c.args.row c.lacks.ensures (ap not c.if-not-lacks.false)) (omega arith)
