-- What is read is the cache's own.
use Rattle.layout.specs.Picture.{cache_in}
use Rattle.epoch.proofs.Laws.{increased_is}
use mathlib.Core.Path.{◌∙◌}
use Rattle.epoch.proofs.Named.{bound_is}
use Rattle.epoch.proofs.decrease.increased_maximum.Goals as goal

pub returns : goal.returns
returns c =
    let d = cache_in c.args.table.now in
    (increased_is d c.settings-s.result c.maximum-before.result c.held_bytes.result c.increased.result c.exceeded.result c.args.rate c.settings-s.ensures c.maximum-before.ensures c.held_bytes.ensures c.exceeded.ensures c.increased.ensures, c.increase_bound.ensures ∙ bound_is d c.settings-s.result c.maximum-before.result c.settings-s.ensures c.maximum-before.ensures)
