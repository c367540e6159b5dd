-- A row is free where fewer are used than there are.
use mathlib.Core.Path.{sym}
use Rattle.layout.proofs.Numbers.{free_is}
use Rattle.table.proofs.runs.has_free.Goals as goal

pub returns : goal.returns
returns c = rw (c.used_len.ensures, c.requires.size) (sym (free_is _))
