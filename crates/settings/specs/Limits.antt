-- Ranges and limits of the settings. Definitions only.
use Rattle.std.specs.Prelude.{ℕ, Bool, true, ◌&&◌, leb, Float, None, Some}
use Rattle.std.specs.Float.Ieee.{le, lt}
use Rattle.fraction.specs.Fraction.{decimal}
use Rattle.settings.specs.Types.{Cap}

-- [low, high], of numbers and of fractions. What is no number lies in no range.
abbrev pub within : ℕ → ℕ → ℕ → Bool
within low high n = leb low n && leb n high

abbrev pub closed : Float → Float → Float → Bool
closed low high x = le low x && le x high

-- (low, high]
abbrev pub open_below : Float → Float → Float → Bool
open_below low high x = lt low x && le x high

-- [0, 1]
abbrev pub unit : Float → Bool
unit x = closed (decimal 0 1) (decimal 1 1) x

-- "in [1,024, 134,217,728]"
abbrev pub smallest_size : ℕ
smallest_size = 1024

abbrev pub largest_size : ℕ
largest_size = 134217728

abbrev pub size_allowed : ℕ → Bool
size_allowed n = within smallest_size largest_size n

-- "epoch length [100, 1,000,000]"
abbrev pub shortest_epoch : ℕ
shortest_epoch = 100

abbrev pub longest_epoch : ℕ
longest_epoch = 1000000

-- "epochs 1 to 10"
abbrev pub fewest_epochs : ℕ
fewest_epochs = 1

abbrev pub most_epochs : ℕ
most_epochs = 10

-- "none or up to 134,217,728"
abbrev pub cap_allowed : Cap → Bool
cap_allowed None = true
cap_allowed (Some n) = leb n largest_size
