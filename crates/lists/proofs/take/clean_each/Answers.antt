use mathlib.Core.Path.{refl}
use Rattle.lists.proofs.Cleaning.{cleaning_start, cleaning_end, noted_low, noted_rows, noted_address, noted_on}
use native.Mathlib.Omega.{arith}
use Rattle.lists.proofs.take.clean_each.Goals as goal

pub loop-noted-init : goal.loop-noted-init
loop-noted-init c = (cleaning_start _ c.requires.0.good, refl)

pub row_address-address-requires : goal.row_address-address-requires
row_address-address-requires c = (noted_rows c.requires.1 (omega arith) c.from-row.ensures c.loop-noted.invariant.0 c.requires.0.size, omega (arith, c.requires.0.size, noted_low c.requires.1 (omega arith) c.from-row.ensures))

pub clean_row-requires : goal.clean_row-requires
clean_row-requires c = (noted_rows c.requires.1 (omega arith) c.from-row.ensures c.loop-noted.invariant.0 c.requires.0.size, noted_address c.requires.1 (omega arith) c.from-row.ensures c.loop-noted.invariant.0 c.row_address-address.ensures)

pub loop-noted-preserved : goal.loop-noted-preserved
loop-noted-preserved c = (noted_on c.requires.1 (omega arith) c.from-row.ensures c.loop-noted.invariant.0 c.row_address-address.ensures c.clean_row.ensures.holds, omega (arith, c.clean_row.auto, c.loop-noted.invariant.1))

pub returns : goal.returns
returns c = cleaning_end c.loop-noted.invariant.0 (omega (arith, c.requires.1.count))
