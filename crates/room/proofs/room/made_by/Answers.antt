-- The runs are as long as the numbers differ.
use mathlib.Core.Path.{refl}
use Rattle.room.proofs.room.made_by.Goals as goal

pub returns : goal.returns
returns c = (refl, rw c.pressing.ensures)
