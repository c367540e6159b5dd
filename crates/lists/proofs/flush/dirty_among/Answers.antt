-- The row at the place holds the address, so the entry read there is the address's.
use Rattle.table.proofs.Told.{told_dirty}
use Rattle.lists.proofs.flush.dirty_among.Goals as goal

pub entry_of-e-requires : goal.entry_of-e-requires
entry_of-e-requires c = (c.requires.0, rw c.key_at-address.ensures c.address_row-row.ensures)

pub returns : goal.returns
returns c = told_dirty _ _ _ (rw c.key_at-address.ensures at c.entry_of-e.ensures)
