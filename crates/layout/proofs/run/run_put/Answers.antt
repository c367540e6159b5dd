-- The part of the table that is the run is lent and comes back with the word put in.
use Rattle.words.specs.Runs.{inserted}
use Rattle.layout.specs.Leaves.{run_put}
use Rattle.layout.proofs.Leaves.{over_part}
use Rattle.layout.proofs.run.run_put.Goals as goal

pub returns : goal.returns
unfolding run_put
returns c =
    let s = c.args in
    over_part s.at s.n (inserted s.pos s.v) s.table.now _ c.insert_at.ensures
