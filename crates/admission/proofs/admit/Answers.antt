-- The flash keeps the rows; the room that is made then is the rules'.
use Rattle.layout.specs.Picture.{cache_in}
use Rattle.admission.proofs.Admission.{flash_good, flash_fits, room_made_whole, room_reasons_told}
use Rattle.admission.proofs.admit.Goals as goal

pub make_room-made-requires : goal.make_room-made-requires
make_room-made-requires c =
    let d = cache_in c.args.table.now in
    (flash_good c.args.size d c.flash-change.ensures.holds c.requires.0.size, c.requires.1, flash_fits c.args.size d c.flash-change.ensures.holds c.args.orders.now c.requires.2, tt)

pub returns : goal.returns
returns c =
    let d = cache_in c.args.table.now in
    let f = c.flash-change.ensures in
    let m = c.make_room-made.ensures in
    record { did = room_made_whole c.args.size d f.holds m.did; named = (room_reasons_told c.args.size d f.holds m.named, f.change) }
