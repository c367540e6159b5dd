-- The number found is the rule's, and within the settings.
use Rattle.layout.specs.Picture.{cache_in}
use Rattle.epoch.proofs.Laws.{lower_least, lower_most, lower_held}
use mathlib.Core.Path.{◌∙◌}
use Rattle.epoch.proofs.Named.{fell_named}
use Rattle.epoch.proofs.decrease.lower_to.Goals as goal

pub set_maximum-requires : goal.set_maximum-requires
set_maximum-requires c =
    let d = cache_in c.args.table.now in
    (c.requires, lower_least d c.args.target c.settings-s.result c.maximum-before.result c.lowered-n.result c.settings-s.ensures c.maximum-before.ensures c.lowered-n.ensures c.requires.steady.least, lower_most d c.args.target c.settings-s.result c.maximum-before.result c.lowered-n.result c.settings-s.ensures c.maximum-before.ensures c.lowered-n.ensures c.requires.steady.most)

pub returns : goal.returns
returns c =
    let d = cache_in c.args.table.now in
    record { holds = lower_held d c.args.target c.settings-s.result c.maximum-before.result c.lowered-n.result c.settings-s.ensures c.maximum-before.ensures c.lowered-n.ensures c.set_maximum.ensures; change = c.fell_to.ensures ∙ fell_named d c.args.target c.settings-s.result c.maximum-before.result c.lowered-n.result c.args.cause c.settings-s.ensures c.maximum-before.ensures c.lowered-n.ensures }
