-- A table that passed is good, so its held bytes can be summed.
use Rattle.judge.proofs.Verdicts.{good}
use Rattle.batch.proofs.known_before.Goals as goal

pub row_count-requires : goal.row_count-requires
row_count-requires c = good _ c.requires.0

pub held_now-requires : goal.held_now-requires
held_now-requires c = (record { good = good _ c.requires.0; size = c.row_count.ensures }, c.requires.1)

pub returns : goal.returns
returns c = c.held_now.ensures
