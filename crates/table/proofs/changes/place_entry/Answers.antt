-- The lowest free row gets the entry's words, and the address run its number at the address's place.
use native.Mathlib.Omega.{arith}
use Rattle.layout.specs.Picture.{cache_in}
use Rattle.layout.proofs.Rows.{lowest_low}
use Rattle.table.proofs.Arrived.{place_fits, place_words}
use Rattle.table.proofs.changes.place_entry.Goals as goal

pub put_entry-requires : goal.put_entry-requires
put_entry-requires c =
    let p = c.requires in
    omega (arith, lowest_low (cache_in c.args.table.now).rows p.1.free, c.free_row-row.ensures, p.0.size, p.0.good.long)

pub run_put-requires : goal.run_put-requires
run_put-requires c =
    let p = c.requires in
    omega (arith, place_fits p.0.good c.args.e p.1, c.place_among-place.ensures, c.addresses_at.ensures, p.0.size, p.0.good.long, c.put_entry.auto.table)

pub returns : goal.returns
returns c =
    let p = c.requires in
    record {
      words = rw (c.run_put.ensures, c.addresses_at.ensures, c.put_entry.ensures, c.place_among-place.ensures, c.free_row-row.ensures, p.0.size) (place_words p.0.good c.args.e p.1);
      number = c.free_row-row.ensures;
    }
