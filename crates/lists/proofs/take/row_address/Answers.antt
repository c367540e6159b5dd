-- The first word of a row is its entry's address.
use Rattle.table.proofs.Told.{read_key}
use Rattle.lists.proofs.take.row_address.Goals as goal

pub returns : goal.returns
returns c = λ a r. read_key c.requires.0 r
