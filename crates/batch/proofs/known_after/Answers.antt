-- The test's value decides what is kept.
use mathlib.Core.Path.{refl}
use Rattle.batch.proofs.known_after.Goals as goal

pub returns-then-orders-kind : goal.returns-then-orders-kind
returns-then-orders-kind c = rw c.if-orders-kind.true refl

pub returns : goal.returns
returns c = rw c.if-orders-kind.false refl
