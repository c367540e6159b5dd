-- Each field is the one that `small_with` names, and the literal 0.0 is the float nearest to 0.
use mathlib.Core.Path.{refl}
use lib.Ieee.{of_bits, round}
use Rattle.small_setup.proofs.small_with.Goals as goal

pub returns : goal.returns
unfolding of_bits round
returns c = refl
