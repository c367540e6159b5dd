-- The part of the table that is the run is lent and comes back with the word taken out.
use Rattle.words.specs.Runs.{removed}
use Rattle.layout.specs.Leaves.{run_cut}
use Rattle.layout.proofs.Leaves.{over_part}
use Rattle.layout.proofs.run.run_cut.Goals as goal

pub returns : goal.returns
unfolding run_cut
returns c =
    let s = c.args in
    over_part s.at s.n (removed s.pos) s.table.now _ c.remove_at.ensures
