-- The maximum, the settings and the held bytes are the cache's own.
use mathlib.Core.Path.{refl}
use Rattle.layout.specs.Picture.{cache_in}
use Rattle.clean_share.proofs.Finding.{wanted_found, held_fits}
use native.Mathlib.Omega.{arith}
use Rattle.clean_share.proofs.clean_wanted.Goals as goal

pub overflow_add-held : goal.overflow_add-held
overflow_add-held c =
    omega (arith, held_fits (record { good = c.requires.0; size = refl }), c.requires.1, c.requires.2)

pub returns : goal.returns
returns c =
    wanted_found (cache_in c.args.table.now) c.args.size _ _ _ c.maximum-maximum.ensures c.settings.ensures c.requires.2 c.saturating_sub.ensures c.size_product-minimum.ensures c.saturating_sub-2.ensures
