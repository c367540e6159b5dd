-- No room is made, and nothing is loaded.
use mathlib.Core.Path.{refl, ap}
use mathlib.Core.List.{List, ◌++◌}
use Rattle.reason_rules.specs.declared.Reason.{Reason}
use Rattle.epoch.specs.Counts.{aged_runs}
use Rattle.protect.proofs.done_by_hit.Goals as goal

pub returns : goal.returns
returns c = (refl, ap (λ (l : List Reason). l ++ aged_runs c.args.counted) c.no_runs.ensures, refl)
