-- Off the list, changed in its row, and on the list if it is listed now: the rules' touch.
use mathlib.Core.Path.{sym, ap, ◌∙◌}
use native.Mathlib.Omega.{arith}
use Rattle.rules.specs.Entries.{is_listed}
use Rattle.rules.specs.Rows.{passes}
use Rattle.table.proofs.Changed.{shorter, touch_holds}
use Rattle.table.proofs.Told.{row_fits, read_get}
use Rattle.table.proofs.touch.touch_entry.Goals as goal

pub entry_at-requires : goal.entry_at-requires
entry_at-requires c =
    row_fits c.requires.0 c.requires.1

pub list_off-n-requires : goal.list_off-n-requires
list_off-n-requires c =
    let p = c.requires in
    (p.0, p.1, c.is_listed-was.ensures ∙ ap is_listed c.entry_at.ensures ∙ sym (p.0.good.steady.sound.listed _ ∙ ap (passes is_listed) (read_get p.0 p.1)))

pub put_entry-requires : goal.put_entry-requires
put_entry-requires c =
    omega (arith, row_fits c.requires.0 c.requires.1, c.list_off-n.auto.table)

pub list_on-requires : goal.list_on-requires
list_on-requires c =
    let p = c.requires in
    omega (arith, shorter p.0.good c.args.e p.1.here p.2, c.list_off-n.ensures.listed, p.0.size, p.0.good.long, c.list_off-n.auto.table, c.put_entry.auto.table)

pub returns : goal.returns
returns c =
    let p = c.requires in
    rw (c.list_on.ensures, c.is_listed.ensures, c.put_entry.ensures, c.list_off-n.ensures.words, p.0.size, p.1.number)
    (touch_holds p.0.good c.args.e p.1.here p.2 _ c.list_off-n.ensures.listed)
