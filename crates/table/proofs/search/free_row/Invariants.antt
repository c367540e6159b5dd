-- The lowest free row from i on is the lowest of all.
use Prim.Native.Nat.{◌+◌}
use mathlib.Core.Path.{◌≡◌}
use lib.ListN.{drop}
use Rattle.layout.specs.Picture.{cache_in}
use Rattle.layout.specs.Places.{lowest_free}
use Rattle.table.proofs.search.free_row.Given as goal

abbrev pub invariant-loop-i : goal.invariant-loop-i
invariant-loop-i l = l.i + lowest_free (drop l.i (cache_in l.table).rows) ≡ lowest_free (cache_in l.table).rows
