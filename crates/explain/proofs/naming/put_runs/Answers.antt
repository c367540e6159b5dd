-- Each run stands behind those before it, and all fit in the words lent.
use native.Mathlib.Omega.{arith}
use mathlib.Core.Path.{refl}
use Rattle.explain.proofs.Put.{put_all}
use native.Mathlib.Omega.{arith}
use borrow.Author.Rules.{rules}
use Rattle.explain.proofs.naming.put_runs.Goals as goal

pub put_room-requires : goal.put_room-requires
put_room-requires c = omega (arith, c.requires)

pub fill_part-requires : goal.fill_part-requires
fill_part-requires c = omega (arith, c.requires, c.put_room.auto)

pub fill_part-requires-2 : goal.fill_part-requires-2
fill_part-requires-2 c = omega (arith, c.requires, c.put_room.auto, c.fill_part.auto)

pub put_room-requires-2 : goal.put_room-requires-2
put_room-requires-2 c = omega (arith, c.requires, c.put_room.auto, c.fill_part.auto, c.fill_part-2.auto)

pub returns : goal.returns
returns c = rw (c.put_room-2.ensures, c.fill_part-2.ensures, c.reason_number-2.ensures, c.fill_part.ensures, c.reason_number.ensures, c.put_room.ensures) (put_all c.args.runs c.args.reasons.now refl refl refl)
