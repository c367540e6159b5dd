-- The answer goes by the increase rule as `increase_allowed` does, and a literal is the nearest float. Assumes nothing.
use lib.Ieee.{of_bits, round}
use Rattle.settings.proofs.validation.increase_allowed.Goals as goal

pub returns-in-Threshold : goal.returns-in-Threshold
unfolding of_bits round
returns-in-Threshold c = rw (c.open_below.ensures, c.unit.ensures, c.in-Threshold.is)
