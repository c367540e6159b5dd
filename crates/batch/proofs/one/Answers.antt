-- The request that the words name is done by a step with no message; words that name none are refused.
use mathlib.Core.Path.{refl}
use Rattle.batch.proofs.one.Goals as goal

pub returns-in-Some : goal.returns-in-Some
returns-in-Some c = rw (← c.plain_request.ensures, c.in-Some.is) c.step_judged.ensures

pub returns-in-None : goal.returns-in-None
returns-in-None c = rw (← c.plain_request.ensures, c.in-None.is) refl
