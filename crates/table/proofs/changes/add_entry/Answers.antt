-- The entry is placed, and its row put at the head if it is listed.
use Rattle.table.proofs.Arrived.{add_holds}
use Rattle.table.proofs.changes.add_entry.Goals as goal

pub returns : goal.returns
returns c =
    let p = c.requires in
    rw (c.list_on.ensures, c.is_listed.ensures, c.place_entry-row.ensures.words, c.place_entry-row.ensures.number, p.0.size)
    (add_holds p.0.good c.args.e p.1 _ c.listed_len-n.ensures)
