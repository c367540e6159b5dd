-- The four writes follow one another without a gap, so the words are the head, the rows and the runs of a fresh cache, then the rest.
use Rattle.layout.proofs.Emptied.{fresh_words}
use Rattle.layout.proofs.fresh.write_fresh.Goals as goal

pub returns-clause-table_after : goal.returns-clause-table_after
returns-clause-table_after c =
    let s = c.args in
    rw (c.fill_part-2.ensures, c.recency_at.ensures, c.fill_part.ensures, c.put_settings.ensures.table_after, c.copy_in.ensures, c.mode_word.ensures)
    (fresh_words s.rows s.mode s.threshold s.s s.table.now)
