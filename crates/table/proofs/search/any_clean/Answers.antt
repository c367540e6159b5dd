use mathlib.Core.Path.{refl, sym, ◌∙◌}
use native.Mathlib.Omega.{arith}
use borrow.Author.Rules.{rules}
use Rattle.rules.specs.Rows.{clean_at}
use Rattle.layout.specs.Picture.{cache_in}
use Rattle.table.proofs.Passes.{some_end}
use Rattle.table.proofs.Turns.{clean_stop, clean_on}
use Rattle.table.proofs.search.any_clean.Goals as goal

pub loop-i-init : goal.loop-i-init
loop-i-init c = (c.listed_len-i-end.ensures, refl)

pub returns-then-not-dirty_at : goal.returns-then-not-dirty_at
returns-then-not-dirty_at c = sym (clean_stop c.requires c.loop-i.i (omega arith) (sym c.dirty_at.ensures ∙ c.if-not-dirty_at.true)) ∙ c.loop-i.invariant.1

pub loop-i-preserved : goal.loop-i-preserved
loop-i-preserved c = (search rules, sym (clean_on c.requires c.loop-i.i (omega arith) (sym c.dirty_at.ensures ∙ c.if-not-dirty_at.false)) ∙ c.loop-i.invariant.1)

pub returns : goal.returns
returns c =
    sym (some_end (cache_in c.args.table.now).recency c.loop-i.i (clean_at (cache_in c.args.table.now).rows) (omega arith)) ∙ c.loop-i.invariant.1
