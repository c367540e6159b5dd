-- A table that does not pass and too few reason words are refused; else the work is done, and the reasons that it tells are put.
use mathlib.Core.Path.{sym, ap, ◌∙◌}
use native.Mathlib.Omega.{arith}
use lib.ListN.{length}
use Rattle.layout.specs.Picture.{cache_in}
use Rattle.judge.proofs.Verdicts.{good}
use Rattle.cache.proofs.StepAnswers.{passes_told, fails_told}
use Rattle.explain.proofs.Put.{length_all}
use Rattle.explain.proofs.Answers.{explain_damaged, explain_few, few_is, reasons_enough, explain_done}
use native.Mathlib.Omega.{arith}
use borrow.Author.Rules.{rules}
use mathlib.Core.Bool.{not}
use Rattle.explain.proofs.explaining.explain.Goals as goal

pub returns-then-not-judge : goal.returns-then-not-judge
returns-then-not-judge c =
    let ws = c.args.table.now in
    let os = c.args.orders.now in
    let rs = c.args.reasons.now in
    explain_damaged ws os rs c.args.message.now c.args.request (fails_told c.judge.ensures (ap not c.if-not-judge.true)) c.refused.ensures.0 c.refused.ensures.1

pub row_count-requires : goal.row_count-requires
row_count-requires c = good c.args.table.now (passes_told c.judge.ensures (ap not c.if-not-judge.false))

pub few_reasons-requires : goal.few_reasons-requires
few_reasons-requires c = omega (arith, c.row_count.ensures, (good c.args.table.now (passes_told c.judge.ensures (ap not c.if-not-judge.false))).steady.rows)

pub returns-then-few_reasons : goal.returns-then-few_reasons
returns-then-few_reasons c =
    let ws = c.args.table.now in
    let os = c.args.orders.now in
    let rs = c.args.reasons.now in
    let v = passes_told c.judge.ensures (ap not c.if-not-judge.false) in
    explain_few ws os rs c.args.message.now c.args.request v (few_is ws rs c.args.request c.row_count.ensures (sym c.few_reasons.ensures ∙ c.if-few_reasons.true)) c.refused-then-few_reasons.ensures.0 c.refused-then-few_reasons.ensures.1

pub work_judged-worked-requires : goal.work_judged-worked-requires
work_judged-worked-requires c = (passes_told c.judge.ensures (ap not c.if-not-judge.false), tt)

pub put_runs-requires : goal.put_runs-requires
put_runs-requires c =
    let ws = c.args.table.now in
    let os = c.args.orders.now in
    let rs = c.args.reasons.now in
    let v = passes_told c.judge.ensures (ap not c.if-not-judge.false) in
    let few = few_is ws rs c.args.request c.row_count.ensures (sym c.few_reasons.ensures ∙ c.if-few_reasons.false) in
    omega (arith, length_all c.work_judged-worked.result.done.runs, reasons_enough ws os rs c.args.message.now c.args.request v few c.work_judged-worked.ensures.named.reasons)

pub returns : goal.returns
returns c =
    let ws = c.args.table.now in
    let os = c.args.orders.now in
    let rs = c.args.reasons.now in
    let v = passes_told c.judge.ensures (ap not c.if-not-judge.false) in
    let few = few_is ws rs c.args.request c.row_count.ensures (sym c.few_reasons.ensures ∙ c.if-few_reasons.false) in
    let w = c.work_judged-worked.ensures in
    explain_done ws os rs c.args.message.now c.args.request v few w.orders_after c.put_runs.ensures w.named.reasons w.named.change
