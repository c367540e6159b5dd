-- Each constant is the value that `defaults` names, and a literal is the nearest float. Assumes nothing.
use lib.Ieee.{of_bits, round}
use Rattle.settings.specs.Defaults.{defaults}
use Rattle.settings.proofs.Settings.defaults.Goals as goal

pub returns : goal.returns
unfolding defaults of_bits round
returns c = rw c.default_clean.ensures
