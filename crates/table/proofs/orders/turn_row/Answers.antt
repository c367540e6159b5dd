-- The row is cleaned, its number cut from the run's start and written after the last.
use native.Mathlib.Omega.{arith}
use lib.ListN.{length-set}
use Rattle.table.proofs.Told.{row_fits}
use Rattle.table.proofs.Turned.{turn_holds}
use Rattle.table.proofs.orders.turn_row.Goals as goal

pub put_entry-requires : goal.put_entry-requires
put_entry-requires c =
    row_fits c.requires.0 c.requires.3

pub shape_of-table : goal.shape_of-table
shape_of-table c = simp length-set (omega (arith, c.run_cut.auto.table, c.put_entry.auto.table))

pub returns : goal.returns
returns c =
    let p = c.requires in
    rw (c.run_cut.ensures, c.recency_at-recency.ensures, c.put_entry.ensures, c.cleaned.ensures, p.0.size, p.3.number)
    (turn_holds p.0.good (omega (arith, p.1, p.2)) c.args.e c.args.n p.4 p.2)
