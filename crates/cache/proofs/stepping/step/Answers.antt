-- A table that does not pass is refused; one that does is handed on.
use borrow.Author.Rules.{rules}
use Rattle.cache.proofs.StepAnswers.{passes_told, fails_told, step_damaged}
use mathlib.Core.Path.{ap}
use mathlib.Core.Bool.{not}
use Rattle.cache.proofs.stepping.step.Goals as goal

pub returns-then-not-judge : goal.returns-then-not-judge
returns-then-not-judge c =
    step_damaged c.args.table.now c.args.orders.now c.args.message.now c.args.request (fails_told c.judge.ensures (ap not c.if-not-judge.true))

pub step_judged-requires : goal.step_judged-requires
step_judged-requires c = (passes_told c.judge.ensures (ap not c.if-not-judge.false), tt)
