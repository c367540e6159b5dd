-- A size that is not large leaves the maximum; else the number that the flash gives is within the settings, and the raise to it is the flash.
use mathlib.Core.Path.{sym, ◌∙◌}
use Rattle.layout.specs.Picture.{cache_in}
use Rattle.flash.proofs.Laws.{flash_not, flash_same, flash_named, flash_most, flash_raised}
use Rattle.flash.proofs.flash.Goals as goal

pub returns-then-not-is_flash : goal.returns-then-not-is_flash
returns-then-not-is_flash c =
    let e = sym c.is_flash.ensures ∙ c.if-not-is_flash.true in
    record { holds = flash_not (cache_in c.args.table.now) c.args.x c.settings-s.result c.maximum-before.result c.settings-s.ensures c.maximum-before.ensures e c.requires.good; change = flash_same (cache_in c.args.table.now) c.args.x c.settings-s.result c.maximum-before.result c.settings-s.ensures c.maximum-before.ensures e }

pub raise-requires : goal.raise-requires
raise-requires c =
    (c.requires.good, c.maximum-before.ensures, flash_most (cache_in c.args.table.now) c.args.x c.settings-s.result c.maximum-before.result c.settings-s.ensures c.maximum-before.ensures c.held_bytes-held.result c.flash_maximum-n.result c.held_bytes-held.ensures c.flash_maximum-n.ensures c.requires.good.steady.most)

pub returns : goal.returns
returns c =
    record { holds = flash_raised (cache_in c.args.table.now) c.args.x c.settings-s.result c.maximum-before.result c.settings-s.ensures c.maximum-before.ensures c.held_bytes-held.result c.flash_maximum-n.result c.held_bytes-held.ensures c.flash_maximum-n.ensures c.raise.ensures.holds; change = c.raise.ensures.change ∙ flash_named (cache_in c.args.table.now) c.args.x c.settings-s.result c.maximum-before.result c.settings-s.ensures c.maximum-before.ensures c.held_bytes-held.result c.flash_maximum-n.result c.held_bytes-held.ensures c.flash_maximum-n.ensures c.flash_bound-bound.result c.flash_bound-bound.ensures }
