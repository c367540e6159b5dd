-- The words of a listed row are those of its entry.
use Rattle.std.specs.Prelude.{Some}
use mathlib.Core.Path.{ap, sym, ◌∙◌}
use Rattle.table.proofs.Told.{row_fits, read_get}
use Rattle.clean_share.proofs.Finding.{size_dirty, size_clean}
use Rattle.clean_share.proofs.clean_size.Goals as goal

pub entry_at-e-requires : goal.entry_at-e-requires
entry_at-e-requires c = row_fits c.requires.0 c.recency_row.ensures

pub returns-then-e : goal.returns-then-e
returns-then-e c = size_dirty _ _ _ (read_get c.requires.0 c.recency_row.ensures ∙ ap Some (sym c.entry_at-e.ensures)) c.if-e.true

pub returns-else-e : goal.returns-else-e
returns-else-e c = size_clean _ _ _ (read_get c.requires.0 c.recency_row.ensures ∙ ap Some (sym c.entry_at-e.ensures)) c.if-e.false
