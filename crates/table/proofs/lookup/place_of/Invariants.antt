-- What is before low is below the address, and what is from high on is not; a place that has the address ends the search.
use Prim.Native.Nat.{◌-◌}
use Rattle.layout.specs.Picture.{addresses, cache_in}
use Rattle.table.proofs.Between.{Between}
use Rattle.table.proofs.lookup.place_of.Given as goal

abbrev pub invariant-loop-low : goal.invariant-loop-low
invariant-loop-low l = Between (addresses (cache_in l.table).rows) l.address l.low l.high

abbrev pub decreases-loop-low : goal.decreases-loop-low
decreases-loop-low l = l.high - l.low
