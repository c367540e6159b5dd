-- The word of a place in the recency run is the row's number.
use Rattle.table.proofs.Told.{recency_number}
use Rattle.table.proofs.lookup.recency_row.Goals as goal

pub returns : goal.returns
returns c =
    rw c.recency_at.ensures (recency_number c.requires.0 c.args.pos c.requires.1)
