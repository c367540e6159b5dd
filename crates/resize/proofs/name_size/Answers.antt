-- The flash keeps the byte count, so the count read after it is the one before; a dirty entry's size is not added again.
use native.Mathlib.Omega.{arith}
use Rattle.layout.proofs.Held.{holds_good}
use Rattle.layout.specs.Picture.{cache_in}
use Rattle.rules.proofs.Effects.{size_most}
use Rattle.resize.proofs.Laws.{named_change, named_dirty, named_clean}
use Rattle.resize.proofs.name_size.Goals as goal

pub returns-then-e : goal.returns-then-e
returns-then-e c =
    record { holds = named_dirty (cache_in c.args.table.now) c.args.e.address c.args.size c.args.e c.requires.1 c.saturating_sub.result c.saturating_sub.ensures c.if-e.true c.flash-change.ensures.holds; change = named_change (cache_in c.args.table.now) c.args.e.address c.args.size c.args.e c.requires.1 c.saturating_sub.result c.saturating_sub.ensures c.flash-change.ensures.change }

pub count-requires : goal.count-requires
count-requires c = holds_good c.flash-change.ensures.holds

pub count_with-requires : goal.count_with-requires
count_with-requires c =
    size_most c.args.size c.requires.2

pub set_count-requires : goal.set_count-requires
set_count-requires c = (holds_good c.flash-change.ensures.holds, omega (arith, c.count_with.ensures))

pub returns : goal.returns
returns c =
    record { holds = named_clean (cache_in c.args.table.now) c.args.e.address c.args.size c.args.e c.requires.1 c.saturating_sub.result c.saturating_sub.ensures c.count.result c.count_with.result c.if-e.false c.flash-change.ensures.holds c.count.ensures c.count_with.ensures c.set_count.ensures; change = named_change (cache_in c.args.table.now) c.args.e.address c.args.size c.args.e c.requires.1 c.saturating_sub.result c.saturating_sub.ensures c.flash-change.ensures.change }
