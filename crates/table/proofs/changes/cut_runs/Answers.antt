-- Each run is cut as far as it names rows, which leaves what cutting all of it would.
use Rattle.table.proofs.Changed.{cut_both}
use Rattle.table.proofs.changes.cut_runs.Goals as goal

pub returns : goal.returns
returns c =
    let p = c.requires in
    rw (c.run_cut-2.ensures, c.addresses_at.ensures, c.run_cut.ensures, c.recency_at.ensures, c.used_len-used.ensures, c.listed_len-listed.ensures, p.0.size)
    (cut_both p.0.good _ _ p.1 p.2)
