-- The table has as many rows as the second word says.
use Rattle.layout.proofs.Held.{holds_count}
use Rattle.table.proofs.header.row_count.Goals as goal

pub returns : goal.returns
returns c = holds_count c.requires
