-- A message that the tests pass is taken in the rows that they noted.
use Rattle.lists.proofs.Cleaning.{noted_first}
use Rattle.room.proofs.Orders.{did_holds}
use Rattle.room.proofs.Answered.{answered_not, answered_done}
use Rattle.verdicts.proofs.Telling.{matched, verdict_some, verdict_none}
use Rattle.layout.specs.Picture.{cache_in}
use Rattle.rules.specs.declared.request.Request.TheVariants.{Take}
use Rattle.rules.specs.Requests.{effect}
use Rattle.rules.specs.Limits.{most_rows}
use Rattle.rules.specs.Hosts.{asking}
use lib.ListN.{length, length-replicate}
use native.Mathlib.Omega.{arith}
use mathlib.Core.Path.{◌≡◌, refl, sym, ap, ◌∙◌}
use Rattle.std.specs.Prelude.{Err}
use Rattle.std.proofs.lemmas.Result.{err_from_is_err_and}
use Rattle.rules.specs.Types.{Answer}
use Rattle.rules.specs.Answers.{verdict_in}
use Prim.Native.Nat.{ℕ}
use Rattle.lists.proofs.take.take.Goals as goal

pub take_noting-requires : goal.take_noting-requires
take_noting-requires c = (record { good = c.requires; size = c.row_count-rows.ensures }, length-replicate {A = ℕ} most_rows 0)

pub returns-in_err-count : goal.returns-in_err-count
returns-in_err-count c =
    let t = err_from_is_err_and _ c.from_residual.ensures.1 in
    let e : ◌≡◌ {A = Answer} c.from_residual.result (Err _) = t.1 ∙ ap Err t.2 in
    λ lent. let d = cache_in c.args.table.now in rw e (answered_not (asking Take c.args.message.now (length lent)) lent _ c.requires (verdict_some _ _ (sym (matched d c.args.message.now (length lent) refl (c.take_noting.ensures.tells (length lent))) ∙ ap verdict_in c.in_err-count.was)))

pub take_list-requires : goal.take_list-requires
take_list-requires c =
    let k = c.take_noting.ensures.noted _ c.in_ok-count.was in
    (record { good = c.requires; size = c.row_count-rows.ensures }, noted_first k (omega (arith, k.count, k.rows.few)))

pub returns : goal.returns
unfolding effect
returns c = λ lent. let d = cache_in c.args.table.now in let call = asking Take c.args.message.now (length lent) in answered_done d call (verdict_none _ (sym (matched d c.args.message.now (length lent) refl (c.take_noting.ensures.tells (length lent))) ∙ ap verdict_in c.in_ok-count.was)) (did_holds c.take_list.ensures)
