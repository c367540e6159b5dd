use mathlib.Core.Path.{refl, sym, ◌∙◌}
use Rattle.layout.specs.Picture.{cache_in}
use Rattle.room.proofs.Kept.{gave, kept_good, left_write}
use Rattle.room.proofs.Writing.{writing_start, within, writing_skip, writing_write, writing_met, writing_end, writing_in}
use native.Mathlib.Omega.{arith}
use Rattle.room.proofs.share.write_until.Goals.{then-dirty_at, else-dirty_at}
use Rattle.room.proofs.share.write_until.Goals as goal

pub loop-pos-init : goal.loop-pos-init
loop-pos-init c =
    (writing_start c.requires.0 c.requires.2 c.requires.1 c.listed_len-listed.ensures, refl, refl)

pub shape_of-table-then-missing-eq0 : goal.shape_of-table-then-missing-eq0
shape_of-table-then-missing-eq0 c = omega (arith, c.loop-pos.invariant.1)

pub shape_of-orders-then-missing-eq0 : goal.shape_of-orders-then-missing-eq0
shape_of-orders-then-missing-eq0 c = omega (arith, c.loop-pos.invariant.2)

pub returns-then-missing-eq0 : goal.returns-then-missing-eq0
returns-then-missing-eq0 c = writing_met c.loop-pos.invariant.0 (omega arith)

pub dirty_at-requires : goal.dirty_at-requires
dirty_at-requires c =
    let k = c.loop-pos.invariant.0 in
    (kept_good k.kept, within k (omega arith))

pub write_at-requires : goal.write_at-requires
write_at-requires c =
    let l = c.loop-pos in
    let k = l.invariant.0 in
    (kept_good k.kept, within k (omega arith), omega (arith, k.kept.fits, l.invariant.2, left_write (cache_in c.loop-pos.table) c.loop-pos.invariant.0.kept.did.holds.steady.sound c.loop-pos.pos (within c.loop-pos.invariant.0 (omega arith)) (cache_in c.loop-pos.table).recency (sym c.dirty_at.ensures ∙ c.if-dirty_at.true)))

pub overflow_add-given : goal.overflow_add-given
overflow_add-given c =
    let l = c.loop-pos in
    omega (arith, l.invariant.0.kept.fits, l.invariant.2, c.well_formed.1.0, left_write (cache_in c.loop-pos.table) c.loop-pos.invariant.0.kept.did.holds.steady.sound c.loop-pos.pos (within c.loop-pos.invariant.0 (omega arith)) (cache_in c.loop-pos.table).recency (sym c.dirty_at.ensures ∙ c.if-dirty_at.true))

pub loop-pos-preserved : goal.loop-pos-preserved
loop-pos-preserved c =
    let k = c.loop-pos.invariant in
    elim c.if-dirty_at.branch [
      | then-dirty_at w ↦ (
        rw (w.table-is, w.orders-is, w.missing-is, w.given-is, w.saturating_sub-missing.ensures) (writing_in (writing_write k.0 (omega arith) c.if-missing-eq0.false (sym c.dirty_at.ensures ∙ w.if-dirty_at.true) (gave w.write_at.ensures))),
        omega (arith, c.if-dirty_at.auto.table, k.1),
        omega (arith, c.if-dirty_at.auto.orders, k.2),
      )
      | else-dirty_at w ↦ (
        rw (w.table-is, w.orders-is, w.missing-is, w.given-is) (writing_skip k.0 (omega arith) (sym c.dirty_at.ensures ∙ w.if-dirty_at.false)),
        omega (arith, c.if-dirty_at.auto.table, k.1),
        omega (arith, c.if-dirty_at.auto.orders, k.2),
      )
    ]

pub shape_of-table : goal.shape_of-table
shape_of-table c = omega (arith, c.loop-pos.invariant.1)

pub shape_of-orders : goal.shape_of-orders
shape_of-orders c = omega (arith, c.loop-pos.invariant.2)

pub returns : goal.returns
returns c = writing_end c.loop-pos.invariant.0 (omega arith)
