-- A known request is the cache's step; an unknown one changes nothing.
use mathlib.Core.Path.{ap}
use Rattle.speldervacht.specs.Numbers.{left_numbers, step_numbers}
use Rattle.speldervacht.proofs.speldervacht_step.Goals as goal

pub returns-in-Ok : goal.returns-in-Ok
unfolding step_numbers
returns-in-Ok c = rw (c.into.ensures, ← c.try_from.ensures, c.in-Ok.is) (ap left_numbers c.step.ensures)

pub returns-in-Err : goal.returns-in-Err
unfolding step_numbers
returns-in-Err c = rw (c.from.ensures, ← c.try_from.ensures, c.in-Err.is, c.unknown_refusal.ensures)
