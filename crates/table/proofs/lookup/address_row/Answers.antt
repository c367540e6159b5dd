-- The word of a place in the address run is the row's number.
use Rattle.table.proofs.Told.{address_number}
use Rattle.table.proofs.lookup.address_row.Goals as goal

pub returns : goal.returns
returns c =
    rw c.addresses_at.ensures (address_number c.requires.0 c.args.place c.requires.1)
