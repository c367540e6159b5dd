use native.Mathlib.Nat.{le_refl}
use native.Mathlib.Omega.{arith}
use Rattle.layout.specs.Picture.{cache_in}
use Rattle.table.proofs.Passes.{total_end}
use Rattle.table.proofs.Turns.{total_fits, held_turn}
use Rattle.table.proofs.sums.held_bytes.Goals as goal

pub overflow_add-sum-in-loop-i-2 : goal.overflow_add-sum-in-loop-i-2
overflow_add-sum-in-loop-i-2 c =
    let g = c.requires in
    let i = c.loop-i.i in
    omega (arith, held_turn g i (omega arith), total_fits g (λ e. e.size) (λ e. le_refl e.size))

pub loop-i-preserved : goal.loop-i-preserved
loop-i-preserved c =
    let g = c.requires in
    let i = c.loop-i.i in
    omega (arith, held_turn g i (omega arith))

pub returns : goal.returns
returns c =
    let s = c.requires.size in
    omega (arith, total_end (cache_in c.args.table.now).rows c.loop-i.i (λ e. e.size) (omega arith))
