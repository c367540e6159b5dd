use mathlib.Core.Path.{ap, ◌∙◌, refl}
use native.Mathlib.Omega.{arith}
use lib.ListN.{length}
use Rattle.lists.proofs.Flushing.{flushing_start, flushing_rows, flushing_same, flushing_on, flushing_past, flushing_end}
use Rattle.lists.proofs.flush.write_all.Goals.{then-dirty_among, else-dirty_among}
use Rattle.lists.proofs.flush.write_all.Goals as goal

pub loop-place-init : goal.loop-place-init
loop-place-init c = (flushing_start _ c.requires.0.good, c.used_len-used.ensures, refl)

pub dirty_among-requires : goal.dirty_among-requires
dirty_among-requires c =
    let k = c.loop-place.invariant in
    let s = c.requires.0.good.steady.sound in
    (flushing_rows s k.0 c.requires.0.size, omega (arith, ap length (flushing_same s k.0)))

pub write_among-requires : goal.write_among-requires
write_among-requires c =
    let k = c.loop-place.invariant in
    let g = c.requires.0 in
    let s = g.good.steady.sound in
    let few = k.0.few in
    let long = k.0.long in
    let used = g.good.used in
    let size = g.size in
    (flushing_rows s k.0 size, omega (arith, ap length (flushing_same s k.0)), omega arith)

pub loop-place-preserved : goal.loop-place-preserved
loop-place-preserved c =
    let k = c.loop-place.invariant in
    let s = c.requires.0.good.steady.sound in
    elim c.if-dirty_among.branch [
      | then-dirty_among w ↦ (flushing_on s k.0 (omega arith) c.dirty_among.ensures w.if-dirty_among.true (omega arith) w.write_among.ensures w.table-is w.orders-is w.given-is, k.1, let e = ap length w.table-is in omega arith)
      | else-dirty_among w ↦ (flushing_past s k.0 (omega arith) c.dirty_among.ensures w.if-dirty_among.false w.table-is w.orders-is w.given-is, k.1, ap length w.table-is ∙ k.2)
    ]

pub returns : goal.returns
returns c = flushing_end c.requires.0.good.steady.sound c.loop-place.invariant.0 (omega arith)
