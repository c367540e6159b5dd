-- One header word is written.
use Rattle.table.proofs.Tuned.{exceeded_holds}
use Rattle.table.proofs.header.set_exceeded.Goals as goal

pub returns : goal.returns
returns c = rw c.flag_word.ensures (exceeded_holds c.requires c.args.exceeded)
