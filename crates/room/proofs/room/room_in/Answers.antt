-- What the first step leaves lets the second begin, and both together are the rule; in the modes that don't write the first is all.
use Rattle.layout.specs.Picture.{cache_in}
use Rattle.room.proofs.Joined.{other_joins, held_left, first_good, first_fits, alone_joins}
use Rattle.room.specs.First.{evict_in}
use native.Mathlib.Omega.{arith}
use Rattle.room.proofs.room.room_in.Goals as goal

pub returns-then-not-alone : goal.returns-then-not-alone
returns-then-not-alone c =
    let d = c.evict_until-evicted.ensures.did in
    record { did = other_joins c.args.size c.args.row c.requires.0 d c.requires.1 c.if-not-alone.true; first = (d.number, omega arith) }

pub write_dirty-given-requires : goal.write_dirty-given-requires
write_dirty-given-requires c =
    let d = c.evict_until-evicted.ensures.did in
    let a = c.if-not-alone.false in (
      first_good c.args.size c.args.row c.requires.0 d a,
      c.requires.2,
      held_left {w = evict_in c.args.alone c.args.size c.args.row (cache_in c.args.table.now)} c.evict_until-evicted.ensures,
      first_fits c.args.size c.args.row c.requires.0 d a c.requires.3 (omega (arith, c.evict_until-evicted.auto.orders)),
    )

pub returns : goal.returns
returns c =
    let d = c.evict_until-evicted.ensures.did in
    record { did = alone_joins c.args.size c.args.row c.requires.0 d c.if-not-alone.false c.requires.1 c.write_dirty-given.ensures; first = (d.number, omega (arith, c.write_dirty-given.ensures.number)) }
