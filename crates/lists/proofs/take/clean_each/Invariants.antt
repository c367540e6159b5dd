-- After i addresses their entries are clean.
use mathlib.Core.Path.{◌≡◌}
use lib.ListN.{length}
use Rattle.rules.specs.Messages.{read_message, addresses_in}
use Rattle.layout.specs.Picture.{cache_in, rest_in}
use Rattle.lists.proofs.Cleaning.{Cleaning}
use Rattle.lists.proofs.take.clean_each.Given as goal

abbrev pub invariant-loop-noted : goal.invariant-loop-noted
invariant-loop-noted l = Cleaning (cache_in l.initial.table) (rest_in l.initial.table) (addresses_in (read_message l.message)) l.table l.noted-index × (length l.table ≡ length l.initial.table)
