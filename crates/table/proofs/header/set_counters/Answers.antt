-- Two header words are written; what is steady does not speak of them.
use native.Mathlib.Omega.{arith}
use lib.ListN.{length-set}
use Rattle.table.proofs.Tuned.{counters_holds}
use Rattle.table.proofs.header.set_counters.Goals as goal

pub bounds-table-6 : goal.bounds-table-6
bounds-table-6 c = simp length-set (omega arith)

pub returns : goal.returns
returns c = counters_holds c.requires _ _
