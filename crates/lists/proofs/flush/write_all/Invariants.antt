-- After the places passed, those dirty among them are written; the addresses stay as entries become clean.
use mathlib.Core.Path.{◌≡◌}
use lib.ListN.{length}
use Rattle.layout.specs.Picture.{addresses, cache_in, rest_in}
use Rattle.lists.proofs.Flushing.{Flushing}
use Rattle.lists.proofs.flush.write_all.Given as goal

abbrev pub invariant-loop-place : goal.invariant-loop-place
invariant-loop-place l = Flushing (cache_in l.initial.table) (rest_in l.initial.table) l.initial.orders l.table l.orders l.place l.given × (l.used ≡ length (addresses (cache_in l.initial.table).rows)) × (length l.table ≡ length l.initial.table)
