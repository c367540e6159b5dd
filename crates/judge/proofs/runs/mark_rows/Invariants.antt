-- `mark_rows` says whether the words are numbers of rows, and marks these. The invariant is `Kept`: so it is up to the word at hand.
use Rattle.judge.proofs.Marking.{Kept}
use Rattle.judge.proofs.runs.mark_rows.Given as goal

abbrev pub invariant-loop-word : goal.invariant-loop-word
invariant-loop-word l = Kept l.named l.rows l.marks l.word-index
