-- A number above the maximum is taken, and is within the settings; else the decrease rule goes on.
use native.Mathlib.Omega.{arith}
use Rattle.layout.specs.Picture.{cache_in}
use Rattle.epoch.proofs.Laws.{increased_most, resized_up, resized_not}
use Rattle.epoch.proofs.Named.{rise_named, rest_named}
use Rattle.epoch.proofs.decrease.resize_maximum.Goals as goal

pub set_maximum-requires : goal.set_maximum-requires
set_maximum-requires c =
    let h = c.requires.0.good in
    (h, omega (arith, h.steady.least, c.maximum.ensures, c.if-maximum-rise.true), increased_most (cache_in c.args.table.now) c.args.rate c.increased_maximum-rise.result.maximum c.increased_maximum-rise.ensures.0 h.steady.most)

pub returns-then-maximum-rise : goal.returns-then-maximum-rise
returns-then-maximum-rise c =
    let d = cache_in c.args.table.now in
    record { did = resized_up d c.args.rate c.maximum.result c.increased_maximum-rise.result.maximum c.maximum.ensures c.increased_maximum-rise.ensures.0 (omega (arith, c.if-maximum-rise.true)) c.set_maximum.ensures; change = rise_named d c.args.rate c.maximum.result c.increased_maximum-rise.result.maximum c.maximum.ensures c.increased_maximum-rise.ensures.0 (omega (arith, c.if-maximum-rise.true)) c.increased_maximum-rise.ensures.1 }

pub returns : goal.returns
returns c =
    let d = cache_in c.args.table.now in
    record { did = resized_not d c.args.rate c.maximum.result c.increased_maximum-rise.result.maximum c.maximum.ensures c.increased_maximum-rise.ensures.0 (omega (arith, c.if-maximum-rise.false)) c.settings-s.result c.settings-s.ensures c.decrease.ensures.did; change = rest_named d c.args.rate c.maximum.result c.increased_maximum-rise.result.maximum c.maximum.ensures c.increased_maximum-rise.ensures.0 (omega (arith, c.if-maximum-rise.false)) c.settings-s.result c.settings-s.ensures c.decrease.ensures.change }
