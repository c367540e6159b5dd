-- All runs are empty.
use mathlib.Core.Path.{refl}
use borrow.Author.Rules.{rules}
use Rattle.cache.proofs.stepping.without_orders.Goals as goal

pub returns : goal.returns
returns c = (refl, c.no_orders-done.ensures.1, c.no_orders-done.ensures.2)
