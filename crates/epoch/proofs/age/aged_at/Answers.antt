-- The words of a listed row are those of its entry.
use Rattle.std.specs.Prelude.{Some}
use mathlib.Core.Path.{ap, sym, ◌∙◌}
use Rattle.table.proofs.Told.{row_fits, read_get}
use Rattle.epoch.proofs.Aging.{told_aged}
use Rattle.epoch.proofs.age.aged_at.Goals as goal

pub entry_at-e-requires : goal.entry_at-e-requires
entry_at-e-requires c = row_fits c.requires.0 c.recency_row-row.ensures

pub returns : goal.returns
returns c = told_aged _ _ _ (read_get c.requires.0 c.recency_row-row.ensures ∙ ap Some (sym c.entry_at-e.ensures))
