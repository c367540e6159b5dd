-- What the rule does from the place reached is what it does from the start: a written entry keeps its place, and the next turn evicts it.
-- The measure is the orders that can still come and the places left.
use Prim.Native.Nat.{◌+◌, ◌-◌}
use mathlib.Core.Path.{◌≡◌}
use lib.ListN.{length}
use Rattle.rules.proofs.Moved.{left}
use Rattle.layout.specs.Picture.{cache_in, rest_in}
use Rattle.epoch.proofs.Aging.{Aging}
use Rattle.epoch.proofs.age.expel.Given as goal

abbrev pub invariant-loop-pos : goal.invariant-loop-pos
invariant-loop-pos l =
    Aging l.epochs l.writes (cache_in l.initial.table) l.rows l.before (rest_in l.initial.table) l.initial.orders l.table l.orders l.listed l.pos l.given (cache_in l.table)
    × (length l.table ≡ length l.initial.table) × (length l.orders ≡ length l.initial.orders)

abbrev pub decreases-loop-pos : goal.decreases-loop-pos
decreases-loop-pos l = left (cache_in l.table) + (l.listed - l.pos)
