-- The row at the place holds the address.
use Rattle.lists.proofs.flush.write_among.Goals as goal

pub write_row-requires : goal.write_row-requires
write_row-requires c = (c.requires.0, rw c.key_at-address.ensures c.address_row-row.ensures, c.requires.2)

pub returns : goal.returns
returns c = rw c.key_at-address.ensures at c.write_row.ensures
