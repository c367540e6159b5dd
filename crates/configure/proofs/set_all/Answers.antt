-- The maximum that is set is the rules', so it is in the range of the settings; then the counters restart.
use Rattle.layout.proofs.Held.{holds_good}
use Rattle.layout.specs.Picture.{cache_in}
use Rattle.configure.proofs.Configured.{settable, configured_held, change_told}
use Rattle.configure.proofs.set_all.Goals as goal

pub set_settings-requires : goal.set_settings-requires
set_settings-requires c =
    let g = c.requires.0 in
    (g, settable c.args.s (cache_in c.args.table.now) c.maximum-before.result c.configured_maximum-n.result c.maximum-before.ensures c.configured_maximum-n.ensures c.requires.1 g.steady.count)

pub restart-requires : goal.restart-requires
restart-requires c = holds_good c.set_settings.ensures

pub returns : goal.returns
returns c =
    record { holds = configured_held c.args.s (cache_in c.args.table.now) c.maximum-before.result c.configured_maximum-n.result c.maximum-before.ensures c.configured_maximum-n.ensures c.set_settings.ensures c.restart.ensures; change = change_told c.args.s (cache_in c.args.table.now) c.maximum-before.result c.configured_maximum-n.result c.maximum-before.ensures c.configured_maximum-n.ensures c.set_to.ensures }
