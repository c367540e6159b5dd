-- The writer of crate message, with its answer as numbers.
use Rattle.speldervacht.specs.Numbers.{wrote_numbers, write_numbers}
use mathlib.Core.Path.{ap}
use Rattle.speldervacht.proofs.speldervacht_write_message.Goals as goal

pub returns : goal.returns
unfolding write_numbers
returns c = rw c.into.ensures (ap wrote_numbers c.write_message.ensures)
