-- One load stands between the room and what the access gives.
use mathlib.Core.Path.{refl}
use Rattle.protect.proofs.done_by_miss.Goals as goal

pub returns : goal.returns
returns c = (refl, refl, c.first_of.ensures)
