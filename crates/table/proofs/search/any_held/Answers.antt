use mathlib.Core.Path.{sym, ◌∙◌}
use native.Mathlib.Omega.{arith}
use Rattle.rules.specs.Entries.{is_held}
use Rattle.layout.specs.Picture.{cache_in}
use Rattle.table.proofs.Passes.{entry_end}
use Rattle.table.proofs.Turns.{held_stop, held_on}
use Rattle.table.proofs.search.any_held.Goals as goal

pub returns-then-table-i-ne0 : goal.returns-then-table-i-ne0
returns-then-table-i-ne0 c = sym (held_stop c.requires c.loop-i.i (omega arith) c.if-table-i-ne0.true) ∙ c.loop-i.invariant

pub loop-i-preserved : goal.loop-i-preserved
loop-i-preserved c = sym (held_on c.requires c.loop-i.i (omega arith) c.if-table-i-ne0.false) ∙ c.loop-i.invariant

pub returns : goal.returns
returns c =
    let s = c.requires.size in
    sym (entry_end (cache_in c.args.table.now).rows c.loop-i.i (λ e. is_held e.hold) (omega arith)) ∙ c.loop-i.invariant
