-- Room is made as the rules make it, which leaves a free row and no entry at the address; the new entry gives no order.
use mathlib.Core.Path.{refl, ◌∙◌}
use Rattle.rules.proofs.Effects.{size_most}
use Rattle.rules.specs.Requests.{effect}
use Rattle.reason_rules.specs.Reasons.{reasons_of, changes_of}
use Rattle.layout.specs.Picture.{cache_in}
use Rattle.room.proofs.Orders.{did_onward, words_fit}
use Rattle.admission.proofs.Admission.{admitted_good, admitted_free, admitted_absent}
use Rattle.insert.specs.Inserted.{inserted_in}
use Rattle.refusals.proofs.Unrefused.{insertable}
use lib.ListN.{length}
use native.Mathlib.Omega.{arith}
use Rattle.insert.proofs.insert.Goals as goal

pub admit-admitted-requires : goal.admit-admitted-requires
admit-admitted-requires c =
    let d = cache_in c.args.table.now in
    let i = insertable d (length c.args.orders.now) c.args.address c.args.size c.requires.accepted in
    (record { good = c.requires.good; size = c.row_count-rows.ensures }, omega (arith, size_most c.args.size i.size), words_fit d d c.args.orders.now i.words refl)

pub add_dirty-requires : goal.add_dirty-requires
add_dirty-requires c =
    let d = cache_in c.args.table.now in
    let i = insertable d (length c.args.orders.now) c.args.address c.args.size c.requires.accepted in
    let k = c.requires.good.steady.sound in
    let w = c.admit-admitted.ensures.did in
    (admitted_good d c.args.address c.args.size k i.new i.row w c.row_count-rows.ensures, admitted_free d c.args.address c.args.size k i.new i.row w, admitted_absent d c.args.address c.args.size k i.new i.row w, i.address, i.size)

pub returns : goal.returns
unfolding effect reasons_of changes_of
returns c =
    let a = c.admit-admitted.ensures in
    record { did = did_onward (inserted_in c.args.address c.args.size) a.did c.add_dirty.ensures; explains = record { reasons = c.room_alone.ensures ∙ a.named.0; change = a.named.1 } }
