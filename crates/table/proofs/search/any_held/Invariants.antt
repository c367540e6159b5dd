-- Whether a row from i on is held is whether any is.
use mathlib.Core.Path.{◌≡◌}
use lib.ListN.{drop}
use Rattle.rules.specs.Entries.{is_held}
use Rattle.rules.specs.Rows.{some_entry}
use Rattle.layout.specs.Picture.{cache_in}
use Rattle.table.proofs.search.any_held.Given as goal

abbrev pub invariant-loop-i : goal.invariant-loop-i
invariant-loop-i l = some_entry (λ e. is_held e.hold) (drop l.i (cache_in l.table).rows) ≡ some_entry (λ e. is_held e.hold) (cache_in l.table).rows
