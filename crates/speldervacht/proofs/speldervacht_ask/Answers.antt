-- A known request is the cache's ask; an unknown one is refused as a step refuses it.
use mathlib.Core.Path.{ap}
use Rattle.numbers.specs.Answers.{verdict_numbers}
use Rattle.speldervacht.specs.Numbers.{ask_numbers}
use Rattle.speldervacht.proofs.speldervacht_ask.Goals as goal

pub returns-in-Ok : goal.returns-in-Ok
unfolding ask_numbers
returns-in-Ok c = rw (c.into.ensures, ← c.try_from.ensures, c.in-Ok.is) (ap verdict_numbers c.ask.ensures)

pub returns-in-Err : goal.returns-in-Err
unfolding ask_numbers
returns-in-Err c = rw (c.from.ensures, ← c.try_from.ensures, c.in-Err.is, c.unknown_refusal.ensures)
