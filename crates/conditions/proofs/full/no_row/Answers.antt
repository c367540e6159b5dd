-- Each test that was made decides, in the rule's order.
use mathlib.Core.Path.{sym, ◌∙◌}
use Rattle.layout.specs.Picture.{cache_in}
use Rattle.conditions.proofs.Evictable.{row_free, row_off, row_evictable}
use Rattle.conditions.proofs.full.no_row.Goals as goal

pub returns-then-has_free : goal.returns-then-has_free
returns-then-has_free c = row_free (cache_in c.args.table.now) (sym c.has_free.ensures ∙ c.if-has_free.true)

pub returns-then-not-settings : goal.returns-then-not-settings
returns-then-not-settings c = row_off (cache_in c.args.table.now) (sym c.has_free.ensures ∙ c.if-has_free.false) (rw c.settings.ensures at c.if-not-settings.true)

pub returns : goal.returns
returns c = row_evictable (cache_in c.args.table.now) (sym c.has_free.ensures ∙ c.if-has_free.false) (rw c.settings.ensures at c.if-not-settings.false) c.any_evictable.ensures
