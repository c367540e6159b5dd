-- What counting an access tells.
use Rattle.std.specs.Prelude.{List, ◌++◌, replicate, Option}
use Rattle.rules.specs.Cache.{Cache, start}
use Rattle.reason_rules.specs.declared.Bound.{Bound}
use Rattle.reason_rules.specs.declared.Change.{Change}
use Rattle.reason_rules.specs.declared.Reason.{Reason}
use Rattle.reason_rules.specs.declared.Reason.TheVariants as reason
use Rattle.reason_rules.specs.Bounds.{rise_bound}
use Rattle.reason_rules.specs.Reasons.{rate_of, increase_raw, resize_change}
use Rattle.reasons.specs.Runs.{room_runs}
use Rattle.epoch.specs.declared.count.Counted.{Counted}

-- The reasons of its orders.
abbrev pub aged_runs : Counted → List Reason
aged_runs r = replicate r.aged reason.Aged ++ room_runs r.again

-- The bound of an increase.
abbrev pub increase_bound : Cache → Option Bound
increase_bound c = rise_bound c.settings.increment (increase_raw c.settings.increase c.maximum) c.maximum c.settings.largest

-- The change at the end of an epoch.
abbrev pub epoch_change : Cache → List Change
epoch_change c = resize_change (rate_of (start c)) (start c)
