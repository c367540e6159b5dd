-- The entry is clean in its row, and the order names it.
use mathlib.Core.Path.{◌∙◌}
use Rattle.table.proofs.orders.write_row.Goals as goal

pub returns : goal.returns
returns c =
    let cleans = c.clean_row-size.ensures in
    record { holds = cleans.holds; size = c.give.ensures.0 ∙ cleans.size; orders = rw cleans.size at c.give.ensures.1 }
