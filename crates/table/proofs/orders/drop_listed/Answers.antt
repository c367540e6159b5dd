-- The row at the place holds the entry, and the search finds its place among the addresses.
use Rattle.std.specs.Prelude.{Some}
use mathlib.Core.Path.{sym, ap, ◌∙◌}
use Rattle.rules.specs.declared.entry.Entry.{Entry}
use Rattle.layout.specs.Picture.{row_number, cache_in}
use Rattle.table.proofs.Told.{row_fits, read_get, read_address, place_key}
use Rattle.table.proofs.orders.drop_listed.Goals as goal

pub entry_at-e-requires : goal.entry_at-e-requires
entry_at-e-requires c = row_fits c.requires.0 c.recency_row-row.ensures

pub drop_entry-requires : goal.drop_entry-requires
drop_entry-requires c =
    let g = c.requires.0 in
    let r = c.recency_row-row.ensures in
    let q = ap (λ (x : Entry). x.address) c.entry_at-e.ensures ∙ read_address g r in (
      g,
      record {
        listed = record { low = c.requires.1; same = sym q };
        placed = rw (c.place_among-place.ensures, q) (place_key g _ r.here);
        number = r.number ∙ ap (row_number (cache_in c.args.table.now).rows) (sym q);
      },
    )

pub returns : goal.returns
returns c =
    let g = c.requires.0 in
    let r = c.recency_row-row.ensures in
    let q = ap (λ (x : Entry). x.address) c.entry_at-e.ensures ∙ read_address g r in
    record { holds = rw q at c.drop_entry.ensures; entry = read_get g r ∙ ap Some (sym c.entry_at-e.ensures) }
