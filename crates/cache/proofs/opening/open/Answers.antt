-- Each test that was made decides, in the rule's order.
use mathlib.Core.Path.{sym, ◌∙◌}
use borrow.Author.Rules.{rules}
use lib.ListN.{length}
use Rattle.cache.proofs.OpenAnswers.{long_enough, open_table, open_mode, open_setting, open_fresh}
use Rattle.cache.proofs.opening.open.Goals as goal

pub returns-then-bad_rows : goal.returns-then-bad_rows
returns-then-bad_rows c = open_table c.args.table.now c.args.rows c.args.mode c.args.threshold c.args.s (sym c.bad_rows.ensures ∙ c.if-bad_rows.true)

pub returns-then-bad_threshold : goal.returns-then-bad_threshold
returns-then-bad_threshold c = open_mode c.args.table.now c.args.rows c.args.mode c.args.threshold c.args.s (sym c.bad_rows.ensures ∙ c.if-bad_rows.false) (sym c.bad_threshold.ensures ∙ c.if-bad_threshold.true)

pub returns-then-field-ne0 : goal.returns-then-field-ne0
returns-then-field-ne0 c = open_setting c.args.table.now c.args.rows c.args.mode c.args.threshold c.args.s (sym c.bad_rows.ensures ∙ c.if-bad_rows.false) (sym c.bad_threshold.ensures ∙ c.if-bad_threshold.false) c.first_bad_field-field.result c.first_bad_field-field.ensures c.if-field-ne0.true

pub write_fresh-requires : goal.write_fresh-requires
write_fresh-requires c = long_enough c.args.rows (length c.args.table.now) (sym c.bad_rows.ensures ∙ c.if-bad_rows.false)

pub returns : goal.returns
returns c = open_fresh c.args.table.now c.args.rows c.args.mode c.args.threshold c.args.s (sym c.bad_rows.ensures ∙ c.if-bad_rows.false) (sym c.bad_threshold.ensures ∙ c.if-bad_threshold.false) c.first_bad_field-field.result c.first_bad_field-field.ensures c.if-field-ne0.false c.write_fresh.ensures.table_after
