-- What is summed and what is still to be summed are the whole.
use Prim.Native.Nat.{◌+◌}
use mathlib.Core.Path.{◌≡◌}
use lib.ListN.{drop}
use Rattle.rules.specs.Rows.{held_bytes}
use Rattle.layout.specs.Picture.{cache_in}
use Rattle.table.proofs.sums.held_bytes.Given as goal

abbrev pub invariant-loop-i : goal.invariant-loop-i
invariant-loop-i l = l.sum + held_bytes (drop l.i (cache_in l.table).rows) ≡ held_bytes (cache_in l.table).rows
