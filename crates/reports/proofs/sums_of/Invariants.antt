-- Each sum, with what the rows still to be passed have, is the whole.
use Prim.Native.Nat.{◌+◌}
use mathlib.Core.Path.{◌≡◌}
use lib.ListN.{drop}
use Rattle.rules.specs.Rows.{held_bytes, total}
use Rattle.layout.specs.Picture.{cache_in}
use Rattle.table.proofs.Passes.{dirty_size}
use Rattle.reports.proofs.Filled.{Filled}
use Rattle.reports.proofs.sums_of.Given as goal

abbrev pub invariant-loop-i : goal.invariant-loop-i
invariant-loop-i l =
    (l.held + held_bytes (drop l.i (cache_in l.table).rows) ≡ held_bytes (cache_in l.table).rows)
    × (l.dirty + total dirty_size (drop l.i (cache_in l.table).rows) ≡ total dirty_size (cache_in l.table).rows)
    × Filled l.table l.totals l.i l.rows
