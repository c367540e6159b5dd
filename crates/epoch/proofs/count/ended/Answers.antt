-- What aged out are the orders between the two numbers.
use mathlib.Core.Path.{refl}
use Rattle.epoch.proofs.count.ended.Goals as goal

pub returns : goal.returns
returns c = (refl, refl, refl)
