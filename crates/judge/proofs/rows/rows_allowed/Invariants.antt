-- `rows_allowed` says whether every row fits and is marked as it is to be, and how many are used and marked. The invariant: it is so of the
-- rows passed.
use Rattle.judge.specs.Fits.{CountedRows}
use Rattle.judge.proofs.rows.rows_allowed.Given as goal

abbrev pub invariant-loop-i : goal.invariant-loop-i
invariant-loop-i l = CountedRows l.rows.table.now l.i l.fn.listed l.entries l.marks
