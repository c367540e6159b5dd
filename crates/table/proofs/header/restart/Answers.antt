-- Both counters are set to 0, and the flag too.
use mathlib.Core.Bool.{false}
use Rattle.rules.specs.Cache.{with_exceeded}
use Rattle.layout.proofs.Held.{holds_good, onward}
use Rattle.table.proofs.header.restart.Goals as goal

pub set_exceeded-requires : goal.set_exceeded-requires
set_exceeded-requires c = holds_good c.set_counters.ensures

pub returns : goal.returns
returns c = onward (with_exceeded false) c.set_counters.ensures c.set_exceeded.ensures
