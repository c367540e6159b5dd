-- Every dirty entry of the list is written from the tail on, the byte count set to 0, and the number used up.
use Rattle.refusals.proofs.Unrefused.{syncable}
use Rattle.room.proofs.Orders.{did_onward, words_fit}
use Rattle.layout.proofs.Held.{holds_good}
use Rattle.layout.specs.Picture.{cache_in}
use Rattle.reason_rules.specs.Reasons.{changes_of}
use Rattle.lists.proofs.Named.{sync_named}
use Rattle.rules.specs.Requests.{effect, numbered}
use Rattle.rules.specs.Cache.{with_count}
use lib.ListN.{length}
use mathlib.Core.Path.{refl}
use native.Mathlib.Omega.{arith}
use Rattle.lists.proofs.sync.sync.Goals as goal

pub write_dirty-given-requires : goal.write_dirty-given-requires
write_dirty-given-requires c = let t = cache_in c.args.table.now in let f = words_fit t t c.args.orders.now (syncable t (length c.args.orders.now) c.requires.accepted) refl in ((record { good = c.requires.good; size = c.row_count-rows.ensures }), omega arith, c.held_bytes-held.ensures, f)

pub set_count-requires : goal.set_count-requires
set_count-requires c = (holds_good c.write_dirty-given.ensures.holds, omega arith)

pub use_number-requires : goal.use_number-requires
use_number-requires c = holds_good c.set_count.ensures

pub returns : goal.returns
unfolding effect changes_of
returns c =
    record { did = did_onward numbered (did_onward (with_count 0) c.write_dirty-given.ensures c.set_count.ensures) c.use_number.ensures; explains = record { reasons = sync_named (cache_in c.args.table.now) c.write_dirty-given.ensures.number c.one_run.ensures; change = refl } }
