-- What the work of a request tells.
use Rattle.std.specs.Prelude.{◌≡◌}
use Rattle.rules.specs.declared.request.Request.{Request}
use Rattle.rules.specs.Cache.{Cache}
use Rattle.reason_rules.specs.Reasons.{reasons_of, changes_of}
use Rattle.reasons.specs.Changes.{change_of}
use Rattle.reasons.specs.Runs.{all_runs}
use Rattle.reasons.specs.declared.runs.Done.{Done}

-- The reasons of its orders, and the change of the maximum, are the rules'.
pub record Explains (c : Cache) (r : Request) (d : Done) : Type 0 where
  pub reasons : all_runs d.runs ≡ reasons_of c r
  pub change : d.change ≡ change_of (changes_of c r)
