-- Tag and length, and the count behind them.
use lib.Seq.{drop-drop}
use Rattle.message.proofs.Putting.{two_bytes}
use Rattle.message.proofs.write.put_count.Goals as goal

pub returns : goal.returns
returns c = rw (c.put_tag.ensures, c.copy_from_slice.ensures.after, c.eight_bytes.ensures, two_bytes c.args.count, drop-drop 2 3 c.args.part.now)
