-- The entry takes one more hold that its own does not forbid, and the access is counted as a hit.
use Rattle.rules.specs.Entries.{protected_for}
use Rattle.layout.specs.Picture.{cache_in}
use Rattle.table.proofs.Amended.{asks_touch, told_touch}
use Rattle.protect.proofs.Protected.{protect_keeps, hit_asks, hit_did, hit_named}
use mathlib.Core.Path.{◌∙◌}
use Rattle.room.proofs.Orders.{did_number}
use Rattle.protect.proofs.hit_row.Goals as goal

pub protected_for-requires : goal.protected_for-requires
protected_for-requires c =
    (c.requires.0.good.steady.entries c.args.address c.entry_of-e.result c.entry_of-e.ensures).hold

pub touch_entry-requires : goal.touch_entry-requires
touch_entry-requires c =
    let f = rw c.entry_of-e.ensures at c.requires.4 in
    asks_touch (protected_for c.args.access) (protect_keeps c.args.access c.entry_of-e.result f) c.protected_for.ensures c.requires.0 c.requires.2 c.entry_of-e.ensures

pub count_access-counted-requires : goal.count_access-counted-requires
count_access-counted-requires c =
    let f = rw c.entry_of-e.ensures at c.requires.4 in
    hit_asks c.args.access c.args.address (cache_in c.args.table.now) (told_touch (protected_for c.args.access) (protect_keeps c.args.access c.entry_of-e.result f) c.protected_for.ensures c.requires.0 c.requires.2 c.entry_of-e.ensures c.touch_entry.ensures) c.args.orders.now c.requires.1 c.requires.0.size c.requires.3

pub returns : goal.returns
returns c =
    let f = rw c.entry_of-e.ensures at c.requires.4 in
    let h = told_touch (protected_for c.args.access) (protect_keeps c.args.access c.entry_of-e.result f) c.protected_for.ensures c.requires.0 c.requires.2 c.entry_of-e.ensures c.touch_entry.ensures in
    let n = c.count_access-counted.ensures in
    let d = c.done_by_hit.ensures in
    record { did = did_number d.0 (hit_did c.args.access c.args.address (cache_in c.args.table.now) h n.did); named = hit_named c.args.access c.args.address (cache_in c.args.table.now) h (d.1 ∙ n.named.0) (d.2 ∙ n.named.1) }
