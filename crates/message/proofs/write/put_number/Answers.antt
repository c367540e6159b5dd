-- Tag and length, and the number behind them.
use lib.Seq.{drop-drop}
use Rattle.message.proofs.write.put_number.Goals as goal

pub returns : goal.returns
returns c = rw (c.put_tag.ensures, c.copy_from_slice.ensures.after, c.eight_bytes.ensures, drop-drop 8 3 c.args.part.now)
