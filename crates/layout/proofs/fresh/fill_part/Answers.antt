-- The part of the table is lent and comes back as v throughout.
use native.Mathlib.Omega.{arith}
use Rattle.layout.specs.Leaves.{fill_part}
use Rattle.layout.proofs.Leaves.{over_filled}
use Rattle.layout.proofs.fresh.fill_part.Goals as goal

pub returns : goal.returns
unfolding fill_part
returns c =
    let s = c.args in
    over_filled s.at s.n s.v s.table.now _ (omega arith) c.fill.ensures
