-- What is done so far, and the rest by the same rule, come to the whole. The measure is the words of requests that are left.
use Prim.Native.Nat.{◌*◌, ◌-◌}
use mathlib.Core.Path.{◌≡◌}
use lib.ListN.{length}
use Rattle.layout.specs.Picture.{cache_in}
use Rattle.room.specs.Held.{HeldIs}
use Rattle.batch.proofs.Batching.{Doing}
use Rattle.batch.specs.Batch.{one_by_one}
use Rattle.batch.proofs.one_by_one.Given as goal

abbrev pub invariant-loop-held : goal.invariant-loop-held
invariant-loop-held l =
    Doing (one_by_one l.requests l.initial.table l.initial.orders l.initial.answers) l.requests l.table l.orders l.answers l.done l.given
    × (length l.table ≡ length l.initial.table) × (length l.orders ≡ length l.initial.orders) × (length l.answers ≡ length l.initial.answers) × HeldIs l.held (cache_in l.table)

abbrev pub decreases-loop-held : goal.decreases-loop-held
decreases-loop-held l = length l.requests - l.done * 3
