-- What the rule does from the place reached is what it does from the start, and the missing bytes carried along are those of the table's
-- cache.
use mathlib.Core.Path.{◌≡◌}
use lib.ListN.{length}
use Rattle.layout.specs.Picture.{cache_in, rest_in}
use Rattle.room.proofs.Writing.{Writing}
use Rattle.room.proofs.share.write_until.Given as goal

abbrev pub invariant-loop-pos : goal.invariant-loop-pos
invariant-loop-pos l =
    Writing l.size (cache_in l.initial.table) l.rows l.before (rest_in l.initial.table) l.initial.orders l.listed l.table l.orders l.missing l.pos l.given (cache_in l.table)
    × (length l.table ≡ length l.initial.table) × (length l.orders ≡ length l.initial.orders)
