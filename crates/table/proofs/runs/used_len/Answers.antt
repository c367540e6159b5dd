-- The address run is as long as there are entries.
use Rattle.table.proofs.Told.{address_run, address_length}
use Rattle.table.proofs.runs.used_len.Goals as goal

pub run_length-requires : goal.run_length-requires
run_length-requires c = rw c.addresses_at.ensures (address_run c.requires)

pub returns : goal.returns
returns c = rw (c.run_length.ensures, c.addresses_at.ensures) (address_length c.requires)
