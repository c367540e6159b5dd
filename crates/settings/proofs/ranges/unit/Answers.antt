-- The literals are the nearest floats to 0 and 1. Assumes nothing.
use lib.Ieee.{of_bits, round}
use Rattle.settings.proofs.Floats.{in_closed}
use Rattle.settings.proofs.ranges.unit.Goals as goal

pub returns : goal.returns
unfolding of_bits round
returns c =
    let n = c.new.ensures in
    rw (c.contains.ensures.value, n.start, n.end, n.exhausted) (in_closed _ _ c.args.x)
