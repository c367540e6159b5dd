-- One header word is written.
use Rattle.table.proofs.Tuned.{next_holds}
use Rattle.table.proofs.header.set_next.Goals as goal

pub returns : goal.returns
returns c = next_holds c.requires c.args.n
