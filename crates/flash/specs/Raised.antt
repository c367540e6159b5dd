-- The parts of a flash.
use Rattle.std.specs.Prelude.{ℕ, Bool, false, ltb, if◌then◌else◌}
use Rattle.fraction.specs.Fraction.{exceeds_share}
use Rattle.settings.specs.declared.Flash.{Flash}
use Rattle.settings.specs.declared.Flash.TheVariants as flash
use Rattle.rules.specs.Cache.{Cache, with_maximum, restart}

-- Whether x bytes exceed the threshold's share of the maximum.
abbrev pub is_flash : Flash → ℕ → ℕ → Bool
is_flash flash.Off x maximum = false
is_flash (flash.On multiple threshold) x maximum = exceeds_share x threshold maximum

-- The maximum raised to n, and the counters restarted, if n is above it.
abbrev pub raised : ℕ → Cache → Cache
raised n c = if ltb c.maximum n then restart (with_maximum n c) else c
