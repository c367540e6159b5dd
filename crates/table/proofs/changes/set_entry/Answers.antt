-- The entry's words are written in its row; it keeps its address and is listed as before, so both runs stay.
use Rattle.table.proofs.Changed.{set_holds}
use Rattle.table.proofs.Told.{row_fits}
use Rattle.table.proofs.changes.set_entry.Goals as goal

pub put_entry-requires : goal.put_entry-requires
put_entry-requires c =
    row_fits c.requires.0 c.requires.1

pub returns : goal.returns
returns c =
    let p = c.requires in
    rw (c.put_entry.ensures, p.1.number) (set_holds p.0.good c.args.e p.1.here p.2 p.3)
