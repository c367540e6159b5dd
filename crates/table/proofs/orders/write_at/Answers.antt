-- The row at the place holds the address.
use native.Mathlib.Omega.{arith}
use Rattle.table.proofs.Told.{row_fits, read_key}
use Rattle.table.proofs.orders.write_at.Goals as goal

pub overflow_mul-address : goal.overflow_mul-address
overflow_mul-address c = omega (arith, row_fits c.requires.0 c.recency_row-row.ensures)

pub overflow_add-address : goal.overflow_add-address
overflow_add-address c = omega (arith, row_fits c.requires.0 c.recency_row-row.ensures)

pub offset_bounds-table-row : goal.offset_bounds-table-row
offset_bounds-table-row c = omega (arith, row_fits c.requires.0 c.recency_row-row.ensures)

pub bounds-table-row : goal.bounds-table-row
bounds-table-row c = omega (arith, row_fits c.requires.0 c.recency_row-row.ensures)

pub write_row-requires : goal.write_row-requires
write_row-requires c =
    let p = c.requires in
    let r = c.recency_row-row.ensures in
    (p.0, rw (read_key p.0 r) r, p.2)

pub returns : goal.returns
returns c = rw (read_key c.requires.0 c.recency_row-row.ensures) at c.write_row.ensures
