-- What is left to do from the place reached comes to what the rule gives from the start, and the figures carried along are those of the
-- table's cache. The measure is the orders that can still come and the places left.
use Prim.Native.Nat.{◌+◌, ◌-◌}
use mathlib.Core.Path.{◌≡◌}
use lib.ListN.{length}
use Rattle.rules.proofs.Moved.{left}
use Rattle.layout.specs.Picture.{cache_in, rest_in}
use Rattle.room.proofs.Making.{Making}
use Rattle.room.proofs.pass.evict_until.Given as goal

abbrev pub invariant-loop-table : goal.invariant-loop-table
invariant-loop-table l =
    Making l.alone l.size l.row (cache_in l.initial.table) l.rows l.before (rest_in l.initial.table) l.initial.orders l.maximum l.table l.orders l.held l.free l.listed l.pos l.given (cache_in l.table)
    × (length l.table ≡ length l.initial.table) × (length l.orders ≡ length l.initial.orders)

abbrev pub decreases-loop-table : goal.decreases-loop-table
decreases-loop-table l = left (cache_in l.table) + (l.listed - l.pos)
