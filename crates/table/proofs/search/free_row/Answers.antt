use native.Mathlib.Omega.{arith}
use Rattle.layout.specs.Picture.{cache_in}
use Rattle.table.proofs.Passes.{lowest_end}
use Rattle.table.proofs.Turns.{free_stop, free_on}
use Rattle.table.proofs.search.free_row.Goals as goal

pub returns-then-table-i-eq0 : goal.returns-then-table-i-eq0
returns-then-table-i-eq0 c = omega (arith, free_stop c.requires c.loop-i.i (omega arith) c.if-table-i-eq0.true)

pub loop-i-preserved : goal.loop-i-preserved
loop-i-preserved c = omega (arith, free_on c.requires c.loop-i.i (omega arith) c.if-table-i-eq0.false)

pub returns : goal.returns
returns c =
    let s = c.requires.size in
    omega (arith, lowest_end (cache_in c.args.table.now).rows c.loop-i.i (omega arith))
