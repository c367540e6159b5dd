-- `parts_allowed` says whether the rows and the two runs fit. The marks are the rows that the recency run names, so a row that agrees with
-- its mark stands there as it is to; and each run has as many words as rows are to stand in it.
use mathlib.Core.Path.{refl}
use Rattle.judge.proofs.Says.{says_no, denies}
use Rattle.judge.proofs.RunWords.{below_of}
use Rattle.judge.proofs.Parts.{none_seen, counted_of, says_parts}
use Rattle.judge.proofs.parts_allowed.Goals as goal

pub mark_rows-requires-clause-none : goal.mark_rows-requires-clause-none
mark_rows-requires-clause-none c = record { size = refl; none = none_seen 4096 }

pub returns-then-not-mark_rows : goal.returns-then-not-mark_rows
returns-then-not-mark_rows c = says_no (λ p. denies c.mark_rows.ensures.says c.if-not-mark_rows.true (below_of c.args.rows.now.few c.named-recent.ensures p.recency_run))

pub returns-then-rows_allowed : goal.returns-then-rows_allowed
returns-then-rows_allowed c =
    let e = c.if-not-mark_rows.false in
    says_parts c.args.rows.now.few c.named-recent.ensures c.named-ordered.ensures (c.mark_rows.ensures.shows e) (c.mark_rows.ensures.says.sound e)
    (c.rows_allowed.ensures.sound c.if-rows_allowed.true) c.addresses_rise.ensures

pub returns-else-rows_allowed : goal.returns-else-rows_allowed
returns-else-rows_allowed c =
    rw c.if-rows_allowed.false (says_no (λ p. denies c.rows_allowed.ensures c.if-rows_allowed.false
    (counted_of c.args.rows.now.few c.named-recent.ensures c.named-ordered.ensures p (c.mark_rows.ensures.shows c.if-not-mark_rows.false))))
