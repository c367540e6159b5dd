-- No order is given.
use mathlib.Core.Path.{refl}
use Rattle.epoch.proofs.count.no_end.Goals as goal

pub returns : goal.returns
returns c = (refl, c.no_runs.ensures, refl)
