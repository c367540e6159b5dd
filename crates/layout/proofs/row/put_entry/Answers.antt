-- The entry's words are written from the row's start on.
use Rattle.std.specs.Prelude.{Some}
use Rattle.layout.specs.Layout.{width, row_at}
use Rattle.layout.specs.Leaves.{put_row}
use Rattle.layout.specs.Picture.{row_words}
use Rattle.layout.proofs.Leaves.{over_end}
use Rattle.layout.proofs.row.put_entry.Goals as goal

pub returns : goal.returns
unfolding put_row
returns c =
    let s = c.args in
    rw c.row_at.ensures
    (over_end (row_at s.row) width (row_words (Some s.e)) s.table.now _
    (rw (c.flag_word.ensures, c.flag_word-2.ensures, c.hold_word.ensures, c.row_at.ensures) at c.copy_in.ensures))
