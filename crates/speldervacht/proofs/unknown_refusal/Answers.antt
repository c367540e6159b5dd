-- The verdict decides.
use Rattle.speldervacht.proofs.unknown_refusal.Goals as goal

pub returns-then-judge : goal.returns-then-judge
returns-then-judge c = rw (← c.judge.ensures, c.if-judge.true)

pub returns : goal.returns
returns c = rw (← c.judge.ensures, c.if-judge.false)
