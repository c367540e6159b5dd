-- `addresses_rise` says whether the words lead to rising addresses. The invariant is `Kept`: so it is up to the word before the one at hand.
use Rattle.judge.proofs.Ascending.{Kept}
use Rattle.judge.proofs.runs.addresses_rise.Given as goal

abbrev pub invariant-loop-word : goal.invariant-loop-word
invariant-loop-word l = Kept l.rows.table.now l.named l.rows.count l.last l.word-index
