use native.Mathlib.Nat.{le_refl}
use native.Mathlib.Omega.{arith}
use borrow.Author.Rules.{rules}
use Rattle.layout.specs.Picture.{cache_in}
use Rattle.table.proofs.Passes.{dirty_size, dirty_small, total_end}
use Rattle.table.proofs.Turns.{total_fits, held_turn, dirty_add, dirty_on}
use Rattle.reports.proofs.Filled.{filled_start, idle_in, total_small, filled_on, filled_end}
use Rattle.reports.proofs.sums_of.Goals as goal
use Rattle.reports.proofs.sums_of.Goals.{then-table-at-ne0, else-table-at-ne0}

pub loop-i-init : goal.loop-i-init
loop-i-init c = (search rules, search rules, filled_start c.args.table.now c.args.rows)

pub overflow_add-held : goal.overflow_add-held
overflow_add-held c =
    let g = c.requires in
    let i = c.loop-i.i in
    omega (arith, held_turn g i (omega arith), c.loop-i.invariant.0, total_fits g (λ e. e.size) (λ e. le_refl e.size))

pub overflow_add-dirty : goal.overflow_add-dirty
overflow_add-dirty c =
    let g = c.requires in
    omega (arith, dirty_add g c.loop-i.i (omega arith) c.if-table-at-ne0.true, c.loop-i.invariant.1, total_fits g dirty_size dirty_small)

pub offset_bounds-totals-idle : goal.offset_bounds-totals-idle
offset_bounds-totals-idle c = omega (arith, idle_in c.requires c.loop-i.invariant.2 (omega arith), c.loop-i.invariant.2.eleven)

pub bounds-totals-idle : goal.bounds-totals-idle
bounds-totals-idle c = omega (arith, idle_in c.requires c.loop-i.invariant.2 (omega arith), c.loop-i.invariant.2.eleven)

pub overflow_add-totals : goal.overflow_add-totals
overflow_add-totals c = omega (arith, total_small c.requires c.loop-i.invariant.2 (omega arith))

pub bounds-totals-idle-in-loop-i : goal.bounds-totals-idle-in-loop-i
bounds-totals-idle-in-loop-i c = omega (arith, idle_in c.requires c.loop-i.invariant.2 (omega arith), c.loop-i.invariant.2.eleven)

pub loop-i-preserved : goal.loop-i-preserved
loop-i-preserved c =
    let g = c.requires in
    let i = c.loop-i.i in (
      omega (arith, held_turn g i (omega arith), c.loop-i.invariant.0),
      elim c.if-table-at-ne0.branch [
        | then-table-at-ne0 w ↦ omega (arith, dirty_add g i (omega arith) w.if-table-at-ne0.true, c.loop-i.invariant.1)
        | else-table-at-ne0 w ↦ omega (arith, dirty_on g i (omega arith) w.if-table-at-ne0.false, c.loop-i.invariant.1)
      ],
      filled_on g c.loop-i.invariant.2 (omega arith),
    )

pub returns : goal.returns
returns c =
    let t = (cache_in c.args.table.now).rows in
    let i = c.loop-i.i in
    let s = c.requires.size in
    (omega (arith, total_end t i (λ e. e.size) (omega arith), c.loop-i.invariant.0), omega (arith, total_end t i dirty_size (omega arith), c.loop-i.invariant.1), filled_end c.requires c.loop-i.invariant.2 (omega arith))
