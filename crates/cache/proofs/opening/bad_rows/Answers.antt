-- Each test that was made decides.
use native.Mathlib.Omega.{arith}
use borrow.Author.Rules.{rules}
use Rattle.cache.proofs.OpenAnswers.{no_rows, many_rows, few_words}
use Rattle.cache.proofs.opening.bad_rows.Goals as goal

pub returns-then-rows-eq0 : goal.returns-then-rows-eq0
returns-then-rows-eq0 c = no_rows c.args.rows c.args.words c.if-rows-eq0.true

pub returns-then-rows-gt-MOST_ROWS : goal.returns-then-rows-gt-MOST_ROWS
returns-then-rows-gt-MOST_ROWS c = many_rows c.args.rows c.args.words c.if-rows-gt-MOST_ROWS.true

pub returns : goal.returns
returns c = few_words c.args.rows c.args.words _ c.if-rows-eq0.false c.if-rows-gt-MOST_ROWS.false (omega (arith, c.layout_words.ensures))
