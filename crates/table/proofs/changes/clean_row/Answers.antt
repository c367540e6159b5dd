-- The mark is written in the entry's row.
use Rattle.table.proofs.Told.{row_fits, told_size}
use Rattle.table.proofs.Turned.{clean_holds}
use Rattle.table.proofs.changes.clean_row.Goals as goal

pub clear_dirty-requires : goal.clear_dirty-requires
clear_dirty-requires c = row_fits c.requires.0 c.requires.1

pub returns : goal.returns
returns c =
    let p = c.requires in
    record { holds = rw (c.clear_dirty.ensures, p.1.number) (clean_holds _ p.0.good p.1.here); size = told_size _ _ _ c.entry_of-e.ensures }
