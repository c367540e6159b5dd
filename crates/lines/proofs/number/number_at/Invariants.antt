-- The number from i on, after digits that count the value, is the number from the start (`Kept`).
use Rattle.lines.proofs.Laws.{Kept}
use Rattle.lines.proofs.number.number_at.Given as goal

abbrev pub invariant-loop-i : goal.invariant-loop-i
invariant-loop-i l = Kept l.s l.at l.i l.value
