-- The first word of the row at a place is the address there.
use native.Mathlib.Omega.{arith}
use Rattle.table.proofs.Told.{row_fits, read_key}
use Rattle.table.proofs.lookup.key_at.Goals as goal

pub overflow_mul-result : goal.overflow_mul-result
overflow_mul-result c = omega (arith, row_fits c.requires.0 c.address_row.ensures)

pub overflow_add-result : goal.overflow_add-result
overflow_add-result c = omega (arith, row_fits c.requires.0 c.address_row.ensures)

pub offset_bounds-table-address_row : goal.offset_bounds-table-address_row
offset_bounds-table-address_row c = omega (arith, row_fits c.requires.0 c.address_row.ensures)

pub bounds-table-address_row : goal.bounds-table-address_row
bounds-table-address_row c = omega (arith, row_fits c.requires.0 c.address_row.ensures)

pub returns : goal.returns
returns c = read_key c.requires.0 c.address_row.ensures
