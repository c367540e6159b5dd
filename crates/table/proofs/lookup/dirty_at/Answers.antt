-- The words of a listed row are those of its entry.
use Rattle.std.specs.Prelude.{Some}
use mathlib.Core.Path.{ap, sym, ◌∙◌}
use Rattle.table.proofs.Told.{row_fits, read_get, told_dirty}
use Rattle.table.proofs.lookup.dirty_at.Goals as goal

pub entry_at-requires : goal.entry_at-requires
entry_at-requires c = row_fits c.requires.0 c.recency_row.ensures

pub returns : goal.returns
returns c = told_dirty _ _ _ (read_get c.requires.0 c.recency_row.ensures ∙ ap Some (sym c.entry_at.ensures))
