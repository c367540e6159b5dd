-- The tail's row is turned, and the order names its entry.
use Rattle.std.specs.Prelude.{Some}
use mathlib.Core.Path.{sym, ap, ◌∙◌}
use native.Mathlib.Omega.{arith}
use Rattle.table.proofs.Told.{row_fits, read_get, told_size, told_address}
use Rattle.table.proofs.orders.turn_tail.Goals as goal

pub entry_at-e-requires : goal.entry_at-e-requires
entry_at-e-requires c = row_fits c.requires.0 c.recency_row-row.ensures

pub turn_row-requires : goal.turn_row-requires
turn_row-requires c =
    let p = c.requires in
    let r = c.recency_row-row.ensures in
    (p.0, omega (arith, p.1, c.listed_len-n.ensures), c.listed_len-n.ensures, r, read_get p.0 r ∙ ap Some (sym c.entry_at-e.ensures))

pub returns : goal.returns
returns c =
    let r = read_get c.requires.0 c.recency_row-row.ensures ∙ ap Some (sym c.entry_at-e.ensures) in
    let z = told_size _ _ _ r in
    record { holds = c.turn_row.ensures; size = c.give.ensures.0 ∙ z; orders = rw (told_address _ _ _ r, z) at c.give.ensures.1 }
