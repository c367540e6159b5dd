use mathlib.Core.Path.{refl, ◌∙◌}
use native.Mathlib.Omega.{arith}
use Rattle.table.proofs.Aged.{age_start, age_step, age_holds}
use Rattle.table.proofs.idle.age_all.Goals as goal

pub loop-i-init : goal.loop-i-init
loop-i-init c = (refl, age_start c.requires.good)

pub age_row-requires : goal.age_row-requires
age_row-requires c =
    omega (arith, c.requires.size, c.requires.good.long, c.loop-i.invariant.0)

pub loop-i-preserved : goal.loop-i-preserved
loop-i-preserved c =
    let g = c.requires in
    let l = c.loop-i in
    (c.age_row.auto.table ∙ l.invariant.0, c.age_row.ensures ∙ age_step g.good l.i (omega (arith, g.size)) l.invariant.1)

pub shape_of-table : goal.shape_of-table
shape_of-table c = omega (arith, c.loop-i.invariant.0)

pub returns : goal.returns
returns c =
    age_holds c.requires.good c.loop-i.i (omega (arith, c.requires.size)) c.loop-i.invariant.1
