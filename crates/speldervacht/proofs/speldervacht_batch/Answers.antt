-- The batch of crate batch, with its answer as numbers.
use mathlib.Core.Path.{ap}
use Rattle.speldervacht.specs.Numbers.{after_numbers, batch_numbers}
use Rattle.speldervacht.proofs.speldervacht_batch.Goals as goal

pub returns : goal.returns
unfolding batch_numbers
returns c = rw c.from.ensures (ap after_numbers c.batch-batched.ensures)
