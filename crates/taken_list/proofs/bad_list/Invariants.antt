-- The rows of the addresses passed are marked and noted, and those addresses are dirty and distinct; an address that is not dirty, or whose
-- row is marked, ends the walk.
use Rattle.layout.specs.Picture.{cache_in}
use Rattle.taken_list.proofs.Marked.{Marked}
use Rattle.taken_list.proofs.bad_list.Given as goal

abbrev pub invariant-loop-i : goal.invariant-loop-i
invariant-loop-i l = Marked (cache_in l.table).rows l.list l.named l.seen l.i
