-- The answer goes by the flash rule as `flash_allowed` does, and a literal is the nearest float. Assumes nothing.
use Rattle.std.proofs.Common.{ap₂, ◌&&◌}
use lib.Ieee.{of_bits, round}
use Rattle.settings.proofs.Floats.{in_closed}
use Rattle.settings.proofs.validation.flash_allowed.Goals as goal

pub returns-in-On : goal.returns-in-On
unfolding of_bits round
returns-in-On c =
    let m = c.new.ensures in
    let t = c.new-in-On.ensures in
    rw (c.contains.ensures.value, c.contains-in-On.ensures.value, c.in-On.is, m.start, m.end, m.exhausted, t.start, t.end, t.exhausted)
    (ap₂ (λ a b. a && b) (in_closed _ _ c.in-On.multiple) (in_closed _ _ c.in-On.threshold))
