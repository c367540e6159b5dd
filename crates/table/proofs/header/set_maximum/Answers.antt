-- One header word is written, and the maximum stays within its range.
use Rattle.table.proofs.Tuned.{maximum_holds}
use Rattle.table.proofs.header.set_maximum.Goals as goal

pub returns : goal.returns
returns c = let p = c.requires in maximum_holds p.0 c.args.n p.1 p.2
