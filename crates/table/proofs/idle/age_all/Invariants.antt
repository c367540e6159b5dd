-- After i rows those are older and the others as they were.
use mathlib.Core.Path.{◌≡◌}
use lib.ListN.{length}
use Rattle.rules.specs.Cache.{with_rows}
use Rattle.layout.specs.Picture.{encode, cache_in, rest_in}
use Rattle.table.proofs.Aged.{aged_to}
use Rattle.table.proofs.idle.age_all.Given as goal

abbrev pub invariant-loop-i : goal.invariant-loop-i
invariant-loop-i l = (length l.table ≡ length l.initial.table) × (l.table ≡ encode (with_rows (aged_to l.i (cache_in l.initial.table).rows) (cache_in l.initial.table).recency (cache_in l.initial.table)) (rest_in l.initial.table))
