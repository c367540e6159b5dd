-- Both tests as they are.
use native.Mathlib.Omega.{arith}
use borrow.Author.Rules.{rules}
use Rattle.explain.proofs.explaining.few_reasons.Goals as goal

pub returns : goal.returns
returns c = rw c.can_order.ensures
