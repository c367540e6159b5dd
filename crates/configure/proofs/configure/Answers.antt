-- The settings are taken, and room is made for nothing.
use mathlib.Core.Path.{◌∙◌}
use native.Mathlib.Omega.{arith}
use lib.ListN.{length}
use Rattle.rules.specs.Requests.{effect}
use Rattle.reason_rules.specs.Reasons.{reasons_of, changes_of}
use Rattle.layout.specs.Picture.{cache_in}
use Rattle.layout.proofs.Held.{holds_cache, holds_rest}
use Rattle.table.proofs.Told.{good_rows}
use Rattle.configure.proofs.Configured.{configured_fits, configured_reasons}
use Rattle.refusals.proofs.Unrefused.{configurable}
use Rattle.configure.proofs.configure.Goals as goal

pub set_all-change-requires : goal.set_all-change-requires
set_all-change-requires c =
    (c.requires.good, (configurable (cache_in c.args.table.now) (length c.args.orders.now) c.args.s c.requires.accepted).1)

pub make_room-made-requires : goal.make_room-made-requires
make_room-made-requires c =
    let k = c.set_all-change.ensures.holds in
    (good_rows k c.row_count-rows.ensures, omega arith, configured_fits c.args.s (cache_in c.args.table.now) c.args.orders.now (configurable (cache_in c.args.table.now) (length c.args.orders.now) c.args.s c.requires.accepted).0 k, tt)

pub returns : goal.returns
unfolding effect reasons_of changes_of
returns c =
    let k = c.set_all-change.ensures.holds in
    let m = c.make_room-made.ensures in
    let d = m.did in
    record { did = rw (holds_cache k, holds_rest k) at d; explains = record { reasons = c.room_alone.ensures ∙ configured_reasons c.args.s (cache_in c.args.table.now) k m.named; change = c.set_all-change.ensures.change } }
