-- One run stands behind the other.
use native.Mathlib.Omega.{arith}
use native.Mathlib.Omega.{arith}
use borrow.Author.Rules.{rules}
use Rattle.explain.proofs.naming.put_room.Goals as goal

pub fill_part-requires : goal.fill_part-requires
fill_part-requires c = omega (arith, c.requires)

pub fill_part-requires-2 : goal.fill_part-requires-2
fill_part-requires-2 c = omega (arith, c.requires, c.fill_part.auto)

pub returns : goal.returns
returns c = rw (c.fill_part-2.ensures, c.reason_number-2.ensures, c.fill_part.ensures, c.reason_number.ensures)
