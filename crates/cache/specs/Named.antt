-- What a request on a table that passed names beside its answer.
use Rattle.std.specs.Prelude.{◌≡◌}
use Rattle.rules.specs.Cache.{Cache}
use Rattle.rules.specs.Refusals.{Call, refusal_of}
use Rattle.reason_rules.specs.Reasons.{reasons_of, changes_of, granted}
use Rattle.reasons.specs.Changes.{change_of}
use Rattle.reasons.specs.Runs.{all_runs}
use Rattle.cache.specs.declared.stepping.Worked.{Worked}

-- The reasons of its orders and the change of the maximum; none if it is refused.
pub record Named (c : Cache) (call : Call) (r : Worked) : Type 0 where
  pub reasons : all_runs r.done.runs ≡ granted (refusal_of c call) (reasons_of c call.request)
  pub change : r.done.change ≡ change_of (granted (refusal_of c call) (changes_of c call.request))
