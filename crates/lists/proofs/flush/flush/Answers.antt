-- Every dirty entry is written, the byte count set to 0, and a lead's number used up.
use Rattle.refusals.proofs.Unrefused.{flushable}
use Rattle.room.proofs.Orders.{did_onward}
use Rattle.layout.proofs.Held.{holds_good}
use Rattle.layout.specs.Picture.{cache_in}
use Rattle.reason_rules.specs.Reasons.{changes_of}
use Rattle.lists.proofs.Named.{flush_named}
use Rattle.rules.specs.Requests.{effect, numbered}
use Rattle.rules.specs.Cache.{with_count}
use borrow.Author.Tests.{ltb-false}
use lib.ListN.{length}
use mathlib.Core.Path.{refl}
use Prim.Native.Nat.{◌+◌, ◌*◌}
use native.Mathlib.Omega.{arith}
use Rattle.lists.proofs.flush.flush.Goals as goal

pub write_all-given-requires : goal.write_all-given-requires
write_all-given-requires c = let n = c.row_count-rows.ensures in let t = ltb-false (length c.args.orders.now) (3 * (2 * length (cache_in c.args.table.now).rows + 1)) (flushable (cache_in c.args.table.now) (length c.args.orders.now) c.requires.accepted) in ((record { good = c.requires.good; size = c.row_count-rows.ensures }), omega arith)

pub set_count-requires : goal.set_count-requires
set_count-requires c = (holds_good c.write_all-given.ensures.holds, omega arith)

pub use_number-requires : goal.use_number-requires
use_number-requires c = holds_good c.set_count.ensures

pub returns : goal.returns
unfolding effect changes_of
returns c =
    record { did = did_onward numbered (did_onward (with_count 0) c.write_all-given.ensures c.set_count.ensures) c.use_number.ensures; explains = record { reasons = flush_named (cache_in c.args.table.now) c.write_all-given.ensures.number c.one_run.ensures; change = refl } }
