-- Sizes and rates by floats: each of `mul`, `div`, `sub` and `of_int` is exact and then rounded once. Definitions only.
use Rattle.std.specs.Prelude.{ℕ, Bool, false, pos, Float}
use Rattle.std.specs.Float.{binary64}
use Rattle.std.specs.Float.Ieee.{round, of_int, mul, div, sub, lt}
use Rattle.fraction.specs.Whole.{whole_part}

-- The decimal n / d as a program writes it: the nearest float. 1.1 is `decimal 11 10`.
abbrev pub decimal : ℕ → ℕ → Float
decimal n d = round binary64 false n d

-- A whole number as a float: the nearest.
abbrev pub float : ℕ → Float
float n = of_int binary64 (pos n)

-- "A size from a float is its whole part": a size times a fraction.
unfoldable pub size_product : ℕ → Float → ℕ
size_product size fraction = whole_part (mul binary64 (float size) fraction)

-- "Rate = hits / accesses."
unfoldable pub hit_rate : ℕ → ℕ → Float
hit_rate hits accesses = div binary64 (float hits) (float accesses)

-- "held / (1 - reserve) in two operations", as a size.
unfoldable pub reserve_quotient : ℕ → Float → ℕ
reserve_quotient held reserve = whole_part (div binary64 (float held) (sub binary64 (decimal 1 1) reserve))

-- "x exceeds threshold times maximum."
unfoldable pub exceeds_share : ℕ → Float → ℕ → Bool
exceeds_share x threshold maximum = lt (mul binary64 (float maximum) threshold) (float x)
