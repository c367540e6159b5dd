-- One header word is written, and the count is within its stop.
use Rattle.table.proofs.Tuned.{count_holds}
use Rattle.table.proofs.header.set_count.Goals as goal

pub returns : goal.returns
returns c = let p = c.requires in count_holds p.0 c.args.n p.1
