-- The entry goes, and the order names it.
use mathlib.Core.Path.{◌∙◌}
use Rattle.table.proofs.Told.{told_size, told_address}
use Rattle.table.proofs.orders.evict_at.Goals as goal

pub returns : goal.returns
returns c =
    let d = c.drop_listed-e.ensures in
    let z = told_size _ _ _ d.entry in
    record { holds = d.holds; size = c.give.ensures.0 ∙ z; orders = rw (told_address _ _ _ d.entry, z) at c.give.ensures.1 }
