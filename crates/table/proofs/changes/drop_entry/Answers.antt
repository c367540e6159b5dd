-- The two runs lose the row and the row is cleared: the words of the cache without the entry.
use native.Mathlib.Omega.{arith}
use Rattle.table.proofs.Changed.{drop_holds}
use Rattle.table.proofs.Told.{row_fits, drop_row}
use Rattle.table.proofs.changes.drop_entry.Goals as goal

pub clear_row-requires : goal.clear_row-requires
clear_row-requires c =
    let p = c.requires in
    omega (arith, row_fits p.0 (drop_row p.0 p.1))

pub returns : goal.returns
returns c =
    let p = c.requires in
    let s = c.args in
    rw (c.clear_row.ensures, c.cut_runs.ensures, p.0.size)
    (drop_holds p.0.good s.address s.pos p.1.listed s.place s.row p.1.placed p.1.number)
