-- Naming the size keeps the entry's row, it is touched there with the size and a hold less, and the hold that is left decides whether room is made.
use mathlib.Core.Path.{ap, ◌∙◌}
use lib.ListN.{length}
use Rattle.rules.specs.Entries.{released}
use Rattle.rules.specs.Requests.{effect}
use Rattle.reason_rules.specs.Reasons.{reasons_of, changes_of}
use Rattle.layout.specs.Picture.{cache_in}
use Rattle.rules.proofs.Effects.{named_books}
use Rattle.resize.proofs.Resized.{own_get, own_change}
use Rattle.release.proofs.Released.{changed, changed_released, named_here, touch_asked, room_asked, room_told}
use Rattle.refusals.proofs.Unrefused.{changeable}
use native.Mathlib.Omega.{arith}
use Rattle.release.proofs.release_changed.Goals as goal

pub name_size-change-requires : goal.name_size-change-requires
name_size-change-requires c =
    ((record { good = c.requires.0.good; size = c.row_count-rows.ensures }), own_get (cache_in c.args.table.now).rows c.args.address c.entry_of-e.result c.entry_of-e.ensures, (changeable (cache_in c.args.table.now) (length c.args.orders.now) c.args.address c.args.size c.requires.0.accepted).size)

pub touch_entry-requires : goal.touch_entry-requires
touch_entry-requires c =
    let b = (cache_in c.args.table.now) in
    let f = changeable b (length c.args.orders.now) c.args.address c.args.size c.requires.0.accepted in
    let h = named_here b c.args.address c.args.size c.entry_of-e.result c.entry_of-e.ensures c.name_size-change.ensures.holds in
    touch_asked (changed_released c.args.size) (changed c.args.size c.entry_of-e.result f.size) (c.released.ensures ∙ ap released c.changed_to.ensures) b (named_books c.args.address c.args.size b).rows h c.row_count-rows.ensures c.requires.1 c.entry_of-e.ensures

pub room_unless_held-made-requires : goal.room_unless_held-made-requires
room_unless_held-made-requires c =
    let b = (cache_in c.args.table.now) in
    let f = changeable b (length c.args.orders.now) c.args.address c.args.size c.requires.0.accepted in
    let h = named_here b c.args.address c.args.size c.entry_of-e.result c.entry_of-e.ensures c.name_size-change.ensures.holds in
    let r = room_asked (changed_released c.args.size) (changed c.args.size c.entry_of-e.result f.size) (c.released.ensures ∙ ap released c.changed_to.ensures) b (named_books c.args.address c.args.size b).rows h c.row_count-rows.ensures c.requires.1 c.entry_of-e.ensures c.touch_entry.ensures c.args.orders.now f.words in
    (r.0, r.1, tt)

pub returns : goal.returns
unfolding effect reasons_of changes_of
returns c =
    let b = (cache_in c.args.table.now) in
    let f = changeable b (length c.args.orders.now) c.args.address c.args.size c.requires.0.accepted in
    let h = named_here b c.args.address c.args.size c.entry_of-e.result c.entry_of-e.ensures c.name_size-change.ensures.holds in
    let t = room_told (changed_released c.args.size) (changed c.args.size c.entry_of-e.result f.size) (c.released.ensures ∙ ap released c.changed_to.ensures) b (named_books c.args.address c.args.size b).rows h c.row_count-rows.ensures c.requires.1 c.entry_of-e.ensures c.touch_entry.ensures c.less_one.result c.less_one.ensures (c.room_unless_held-made.ensures.did, c.room_unless_held-made.ensures.named) in
    record { did = t.0; explains = record { reasons = c.room_alone.ensures ∙ t.1; change = own_change b c.args.address c.args.size c.entry_of-e.result c.entry_of-e.ensures c.name_size-change.ensures.change } }
