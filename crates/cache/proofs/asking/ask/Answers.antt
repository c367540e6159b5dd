-- Judging and the tests are each told by their own function.
use Rattle.judge.proofs.Verdicts.{good}
use Rattle.cache.proofs.AskAnswers.{ask_damaged, ask_told}
use Rattle.cache.proofs.StepAnswers.{passes_told, fails_told}
use borrow.Author.Rules.{rules}
use mathlib.Core.Path.{ap}
use mathlib.Core.Bool.{not}
use Rattle.cache.proofs.asking.ask.Goals as goal

pub returns-then-not-judge : goal.returns-then-not-judge
returns-then-not-judge c =
    ask_damaged c.args.table.now c.args.message.now c.args.lent c.args.request (fails_told c.judge.ensures (ap not c.if-not-judge.true))

pub row_count-rows-requires : goal.row_count-rows-requires
row_count-rows-requires c = good c.args.table.now (passes_told c.judge.ensures (ap not c.if-not-judge.false))

pub find_named-found-requires : goal.find_named-found-requires
find_named-found-requires c = record { good = good c.args.table.now (passes_told c.judge.ensures (ap not c.if-not-judge.false)); size = c.row_count-rows.ensures }

pub refusal_of-requires : goal.refusal_of-requires
refusal_of-requires c = (record { good = good c.args.table.now (passes_told c.judge.ensures (ap not c.if-not-judge.false)); size = c.row_count-rows.ensures }, c.find_named-found.ensures)

pub returns : goal.returns
returns c =
    ask_told c.args.table.now c.args.message.now c.args.lent c.args.request (passes_told c.judge.ensures (ap not c.if-not-judge.false)) c.refusal_of.ensures
