-- The verdict decides; a table that passes is good.
use borrow.Author.Rules.{rules}
use Rattle.judge.proofs.Verdicts.{good}
use Rattle.cache.proofs.ReportAnswers.{report_refused, report_given}
use Rattle.cache.proofs.StepAnswers.{passes_told, fails_told}
use mathlib.Core.Path.{ap}
use mathlib.Core.Bool.{not}
use Rattle.cache.proofs.reporting.report.Goals as goal

pub returns-then-not-judge : goal.returns-then-not-judge
returns-then-not-judge c = report_refused c.args.table.now (fails_told c.judge.ensures (ap not c.if-not-judge.true))

pub report_of-requires : goal.report_of-requires
report_of-requires c = good c.args.table.now (passes_told c.judge.ensures (ap not c.if-not-judge.false))

pub returns : goal.returns
returns c = report_given c.args.table.now c.report_of.result (passes_told c.judge.ensures (ap not c.if-not-judge.false)) c.report_of.ensures
