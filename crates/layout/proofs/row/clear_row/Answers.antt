-- Six zeros are written from the row's start on.
use Rattle.std.specs.Prelude.{None}
use Rattle.layout.specs.Layout.{width, row_at}
use Rattle.layout.specs.Leaves.{put_row}
use Rattle.layout.specs.Picture.{row_words}
use Rattle.layout.proofs.Leaves.{over_end}
use Rattle.layout.proofs.row.clear_row.Goals as goal

pub returns : goal.returns
unfolding put_row
returns c =
    let s = c.args in
    rw c.row_at.ensures (over_end (row_at s.row) width (row_words None) s.table.now _ (rw c.row_at.ensures at c.copy_in.ensures))
