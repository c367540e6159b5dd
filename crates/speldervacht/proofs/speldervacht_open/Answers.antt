-- The opening with the settings given, its answer as numbers.
use mathlib.Core.Path.{ap}
use Rattle.speldervacht.specs.Numbers.{open_numbers, opened_numbers}
use Rattle.speldervacht.proofs.speldervacht_open.Goals as goal

pub returns : goal.returns
unfolding open_numbers
returns c = rw (c.into-2.ensures, ← c.into.ensures) (ap opened_numbers c.open_in.ensures)
