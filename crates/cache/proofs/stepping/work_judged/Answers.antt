-- Judging, the tests and the work are each told by their own function.
use mathlib.Core.List.{[], ◌∷◌}
use mathlib.Core.Path.{sym, ap, ◌∙◌}
use lib.ListN.{length}
use types.Run.{miss}
use Rattle.rules.specs.Hosts.{asking}
use Rattle.layout.specs.Picture.{cache_in}
use Rattle.judge.proofs.Verdicts.{good}
use Rattle.cache.proofs.StepAnswers.{same_left, step_left, step_not, not_refused, step_did}
use Rattle.cache.proofs.Named.{take_named, refused_named, done_named}
use Rattle.cache.specs.Tables.{step_words}
use borrow.Author.Rules.{rules}
use Rattle.cache.proofs.stepping.work_judged.Goals as goal

pub take-requires : goal.take-requires
take-requires c =
    good c.args.table.now c.requires.0

pub returns-in-Take : goal.returns-in-Take
returns-in-Take c =
    let ws = c.args.table.now in
    let os = c.args.orders.now in
    let message = c.args.message.now in
    let n = c.without_orders.ensures in record { orders_after = same_left n.0 (step_left ws os message _ c.requires.0 (c.take.ensures os) ∙ ap (step_words ws os message) (sym c.in-Take.is)); named = take_named (cache_in ws) (asking c.args.request message (length os)) c.in-Take.is n.1 n.2 }

pub row_count-rows-requires : goal.row_count-rows-requires
row_count-rows-requires c = good c.args.table.now c.requires.0

pub find_named-found-requires : goal.find_named-found-requires
find_named-found-requires c = record { good = good c.args.table.now c.requires.0; size = c.row_count-rows.ensures }

pub refusal_of-verdict-requires : goal.refusal_of-verdict-requires
refusal_of-verdict-requires c = (record { good = good c.args.table.now c.requires.0; size = c.row_count-rows.ensures }, c.find_named-found.ensures)

pub returns-in-Err : goal.returns-in-Err
returns-in-Err c =
    let ws = c.args.table.now in
    let os = c.args.orders.now in
    let message = c.args.message.now in
    let n = c.without_orders-in-Err.ensures in
    let v = c.refusal_of-verdict.ensures in record { orders_after = same_left n.0 (step_not ws os message c.args.request c.requires.0 v _ c.in-Err.is); named = refused_named (cache_in ws) (asking c.args.request message (length os)) v _ c.in-Err.is n.1 n.2 }

pub carry_out-done-requires : goal.carry_out-done-requires
carry_out-done-requires c = (
  not_refused c.args.table.now c.args.orders.now c.args.message.now c.args.request c.requires.0 c.refusal_of-verdict.ensures c.in_default-verdict.is,
  c.in_default.not-Take,
  c.find_named-found.ensures,
  c.requires.1,
)

pub returns : goal.returns
returns c =
    let ws = c.args.table.now in
    let os = c.args.orders.now in
    let message = c.args.message.now in
    let d = c.carry_out-done.ensures in
    let v = c.refusal_of-verdict.ensures in
    let a = c.in_default-verdict.is in
    record { orders_after = step_did ws os message c.args.request c.requires.0 v a d.did; named = done_named (cache_in ws) (asking c.args.request message (length os)) v a d.explains.reasons d.explains.change }
