-- The entry is within its limits, so it may come; the count read after it is the one before.
use native.Mathlib.Omega.{arith}
use Rattle.layout.proofs.Held.{holds_good}
use Rattle.layout.specs.Picture.{cache_in}
use Rattle.rules.proofs.Effects.{size_most}
use Rattle.insert.proofs.NewEntry.{new_asks, new_added}
use Rattle.insert.proofs.add_dirty.Goals as goal

pub add_entry-requires : goal.add_entry-requires
add_entry-requires c =
    new_asks c.args.address c.args.size c.requires.3 c.requires.4 c.requires.0 c.requires.1 c.requires.2 c.new_entry.ensures

pub count-requires : goal.count-requires
count-requires c = holds_good c.add_entry.ensures

pub count_with-requires : goal.count_with-requires
count_with-requires c =
    omega (arith, size_most c.args.size c.requires.4)

pub set_count-requires : goal.set_count-requires
set_count-requires c = (holds_good c.add_entry.ensures, omega (arith, c.count_with.ensures))

pub returns : goal.returns
returns c =
    new_added c.args.address c.args.size (cache_in c.args.table.now) c.new_entry.ensures c.add_entry.ensures c.count.ensures c.count_with.ensures c.set_count.ensures
