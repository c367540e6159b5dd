-- Whether the list from i on has a clean entry is whether the list has.
use mathlib.Core.Path.{◌≡◌}
use lib.ListN.{length, drop}
use Rattle.rules.specs.Addresses.{some_address}
use Rattle.rules.specs.Rows.{clean_at}
use Rattle.layout.specs.Picture.{cache_in}
use Rattle.table.proofs.search.any_clean.Given as goal

abbrev pub invariant-loop-i : goal.invariant-loop-i
invariant-loop-i l = (l.i-end ≡ length (cache_in l.table).recency) × (some_address (clean_at (cache_in l.table).rows) (drop l.i (cache_in l.table).recency) ≡ some_address (clean_at (cache_in l.table).rows) (cache_in l.table).recency)
