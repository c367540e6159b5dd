-- A known request is explained by its own function; an unknown one changes nothing.
use mathlib.Core.Path.{ap}
use Rattle.speldervacht.specs.Numbers.{explained_numbers, explain_numbers}
use Rattle.speldervacht.proofs.speldervacht_explain.Goals as goal

pub returns-in-Ok : goal.returns-in-Ok
unfolding explain_numbers
returns-in-Ok c = rw (c.into.ensures, ← c.try_from.ensures, c.in-Ok.is) (ap explained_numbers c.explain-explained.ensures)

pub returns-in-Err : goal.returns-in-Err
unfolding explain_numbers
returns-in-Err c = rw (c.from.ensures, ← c.try_from.ensures, c.in-Err.is, c.unknown_refusal.ensures)
