-- The entry is touched with a hold less, and the hold that is left decides whether room is made.
use mathlib.Core.Path.{refl, ◌∙◌}
use lib.ListN.{length}
use Rattle.rules.specs.Entries.{released}
use Rattle.rules.specs.Requests.{effect}
use Rattle.reason_rules.specs.Reasons.{reasons_of, changes_of}
use Rattle.layout.specs.Picture.{cache_in}
use Rattle.release.proofs.Released.{unchanged, touch_asked, room_asked, held_stays, room_told}
use Rattle.refusals.proofs.Unrefused.{releasable}
use Rattle.release.proofs.release.Goals as goal

pub touch_entry-requires : goal.touch_entry-requires
touch_entry-requires c =
    touch_asked released (unchanged c.entry_of-e.result) c.released.ensures (cache_in c.args.table.now) refl c.requires.0.good c.row_count-rows.ensures c.requires.1 c.entry_of-e.ensures

pub room_unless_held-made-requires : goal.room_unless_held-made-requires
room_unless_held-made-requires c =
    let b = cache_in c.args.table.now in
    let u = unchanged c.entry_of-e.result in
    let r = room_asked released u c.released.ensures b refl c.requires.0.good c.row_count-rows.ensures c.requires.1 c.entry_of-e.ensures c.touch_entry.ensures c.args.orders.now (releasable b (length c.args.orders.now) c.args.address c.requires.0.accepted).0 in
    (r.0, r.1, held_stays released u c.released.ensures b refl c.requires.0.good c.row_count-rows.ensures c.requires.1 c.entry_of-e.ensures c.touch_entry.ensures (λ y. refl) c.args.known c.requires.2)

pub returns : goal.returns
unfolding effect reasons_of changes_of
returns c =
    let t = room_told released (unchanged c.entry_of-e.result) c.released.ensures (cache_in c.args.table.now) refl c.requires.0.good c.row_count-rows.ensures c.requires.1 c.entry_of-e.ensures c.touch_entry.ensures c.less_one.result c.less_one.ensures (c.room_unless_held-made.ensures.did, c.room_unless_held-made.ensures.named) in
    record { did = t.0; explains = record { reasons = c.room_alone.ensures ∙ t.1; change = refl } }
