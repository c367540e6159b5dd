-- What is known is what would be summed.
use Rattle.room.proofs.held.held_now.Goals as goal

pub returns-in-Some : goal.returns-in-Some
returns-in-Some c = rw c.in-Some.is at c.requires.1
