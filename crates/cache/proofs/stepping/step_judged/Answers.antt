-- The answer of the request's work.
use borrow.Author.Rules.{rules}
use Rattle.cache.proofs.stepping.step_judged.Goals as goal

pub returns : goal.returns
returns c = c.work_judged-worked.ensures.orders_after
