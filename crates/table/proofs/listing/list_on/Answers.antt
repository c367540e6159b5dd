-- One word is written, where the row is to be on the list.
use mathlib.Core.Path.{refl}
use Rattle.table.proofs.listing.list_on.Goals as goal

pub returns-then-on : goal.returns-then-on
returns-then-on c = rw (c.if-on.true, c.recency_at.ensures) refl

pub returns-else-on : goal.returns-else-on
returns-else-on c = rw c.if-on.false refl
