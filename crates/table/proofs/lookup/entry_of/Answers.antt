-- The words of an address's row are those of its entry.
use Rattle.std.specs.Prelude.{Some}
use mathlib.Core.Path.{ap, sym, ◌∙◌}
use Rattle.table.proofs.Told.{row_fits, read_get}
use Rattle.table.proofs.lookup.entry_of.Goals as goal

pub entry_at-requires : goal.entry_at-requires
entry_at-requires c =
    row_fits c.requires.0 c.requires.1

pub returns : goal.returns
returns c =
    read_get c.requires.0 c.requires.1 ∙ ap Some (sym c.entry_at.ensures)
