-- A table that does not pass is refused; on one that does the requests are done in turn.
use mathlib.Core.Path.{◌∙◌}
use Rattle.cache.proofs.StepAnswers.{passes_told, fails_told}
use Rattle.batch.proofs.Batching.{batch_damaged, batch_passes}
use mathlib.Core.Path.{ap}
use mathlib.Core.Bool.{not}
use Rattle.batch.proofs.batch.Goals as goal

pub returns-then-not-judge : goal.returns-then-not-judge
returns-then-not-judge c = batch_damaged c.args.table.now c.args.orders.now c.args.requests.now c.args.answers.now (fails_told c.judge.ensures (ap not c.if-not-judge.true))

pub one_by_one-requires : goal.one_by_one-requires
one_by_one-requires c = passes_told c.judge.ensures (ap not c.if-not-judge.false)

pub returns : goal.returns
returns c =
    c.one_by_one.ensures ∙ batch_passes c.args.table.now c.args.orders.now c.args.requests.now c.args.answers.now (passes_told c.judge.ensures (ap not c.if-not-judge.false))
