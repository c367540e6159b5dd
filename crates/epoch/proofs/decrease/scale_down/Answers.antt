-- The target is the maximum times the multiplier.
use Rattle.layout.specs.Picture.{cache_in}
use Rattle.epoch.proofs.Laws.{scaled}
use Rattle.epoch.proofs.Named.{scaled_named}
use Rattle.epoch.proofs.decrease.scale_down.Goals as goal

pub returns : goal.returns
returns c =
    let d = cache_in c.args.table.now in
    record { holds = scaled d c.maximum.result c.size_product-target.result c.args.multiplier c.maximum.ensures c.size_product-target.ensures c.lower_to.ensures.holds; change = scaled_named d c.maximum.result c.size_product-target.result c.args.multiplier c.maximum.ensures c.size_product-target.ensures c.lower_to.ensures.change }
