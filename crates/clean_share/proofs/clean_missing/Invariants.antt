-- What is left, less the clean bytes from the place reached on, is what is missing in all; an entry that has all that is left ends it.
use Prim.Native.Nat.{◌-◌}
use mathlib.Core.Path.{◌≡◌}
use lib.ListN.{length, drop}
use Rattle.rules.specs.Room.{clean_bytes}
use Rattle.layout.specs.Picture.{cache_in}
use Rattle.clean_share.proofs.clean_missing.Given as goal

abbrev pub invariant-loop-pos : goal.invariant-loop-pos
invariant-loop-pos l =
    (l.pos-end ≡ length (cache_in l.table).recency)
    × (l.left - clean_bytes (cache_in l.table).rows (drop l.pos (cache_in l.table).recency) ≡ l.wanted - clean_bytes (cache_in l.table).rows (cache_in l.table).recency)
