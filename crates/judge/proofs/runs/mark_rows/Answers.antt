use Rattle.std.proofs.Common.{arith}
use Rattle.judge.proofs.Marking.{kept_start, kept_on, says_high, says_all}
use Rattle.judge.proofs.runs.mark_rows.Goals as goal

pub loop-word-init : goal.loop-word-init
loop-word-init c = kept_start _ _ _ c.requires.none

pub loop-word-preserved : goal.loop-word-preserved
loop-word-preserved c = kept_on c.loop-word.invariant c.loop-word-test.true c.if-rows-row.false c.requires.few

pub returns-then-rows-row : goal.returns-then-rows-row
returns-then-rows-row c = says_high c.loop-word.invariant c.loop-word-test.true c.if-rows-row.true

pub returns : goal.returns
returns c = says_all c.loop-word.invariant (omega arith)
