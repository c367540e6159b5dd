-- A free row stays; a used row's idle word rises.
use mathlib.Core.Path.{refl}
use borrow.Author.Tests.{eq-eqb, ne_eqb}
use Rattle.table.specs.Told.{age_words}
use Rattle.table.proofs.idle.age_row.Goals as goal

pub returns-then-table-at-ne0 : goal.returns-then-table-at-ne0
unfolding age_words
returns-then-table-at-ne0 c = rw (ne_eqb _ 0 c.if-table-at-ne0.true, c.older.ensures) refl

pub returns-else-table-at-ne0 : goal.returns-else-table-at-ne0
unfolding age_words
returns-else-table-at-ne0 c = rw (eq-eqb _ 0 c.if-table-at-ne0.false) refl
