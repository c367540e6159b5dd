use Rattle.lines.proofs.Laws.{no_newline}
use Rattle.lines.proofs.line.line_end.Goals as goal

pub returns-in-None : goal.returns-in-None
returns-in-None c = no_newline c.args.s.now c.args.at c.requires c.in-None.ensures
