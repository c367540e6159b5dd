-- The test is the rules'; else the room is made.
use mathlib.Core.Path.{sym, ◌∙◌}
use Rattle.layout.specs.Picture.{cache_in}
use Rattle.release.proofs.Released.{room_held, room_made_whole, reasons_held, reasons_made}
use Rattle.release.proofs.room_unless_held.Goals as goal

pub returns-then-is_held : goal.returns-then-is_held
returns-then-is_held c =
    let u = sym c.is_held.ensures ∙ c.if-is_held.true in
    record { did = room_held c.args.hold u c.requires.0.good; named = reasons_held c.args.hold (cache_in c.args.table.now) u c.no_runs.ensures }

pub returns : goal.returns
returns c =
    let u = sym c.is_held.ensures ∙ c.if-is_held.false in
    let m = c.make_room.ensures in
    record { did = room_made_whole c.args.hold (cache_in c.args.table.now) u m.did; named = reasons_made c.args.hold (cache_in c.args.table.now) u m.named }
