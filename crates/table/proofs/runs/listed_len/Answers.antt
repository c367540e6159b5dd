-- The recency run is as long as the list.
use Rattle.table.proofs.Told.{recency_run_same, recency_length}
use Rattle.table.proofs.runs.listed_len.Goals as goal

pub run_length-requires : goal.run_length-requires
run_length-requires c = rw c.recency_at.ensures (recency_run_same c.requires)

pub returns : goal.returns
returns c = rw (c.run_length.ensures, c.recency_at.ensures) (recency_length c.requires)
