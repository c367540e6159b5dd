-- When a field of the settings is bad, field by field as document 01 lists them. Definitions only.
use Rattle.std.specs.Prelude.{ℕ, suc, Bool, true, false, not, ◌&&◌, ◌||◌, cond, List, [], ◌∷◌, ltb, Float}
use Rattle.std.specs.Float.Ieee.{lt}
use Rattle.fraction.specs.Fraction.{decimal}
use Rattle.settings.specs.Limits.{within, closed, open_below, unit, size_allowed, cap_allowed, shortest_epoch, longest_epoch, fewest_epochs, most_epochs}
use Rattle.settings.specs.declared.Settings.{Settings}
use Rattle.settings.specs.declared.Increase.{Increase}
use Rattle.settings.specs.declared.Increase.TheVariants as increase
use Rattle.settings.specs.declared.Flash.{Flash}
use Rattle.settings.specs.declared.Flash.TheVariants as flash
use Rattle.settings.specs.declared.Decrease.{Decrease}
use Rattle.settings.specs.declared.Decrease.TheVariants as decrease

-- ---- the rules

-- whether a rule is on
abbrev pub increases : Increase → Bool
increases increase.Off = false
increases (increase.Threshold lower multiplier) = true

abbrev pub flashes : Flash → Bool
flashes flash.Off = false
flashes (flash.On multiple threshold) = true

abbrev pub decreases : Decrease → Bool
decreases decrease.Off = false
decreases (decrease.Threshold upper multiplier) = true
decreases (decrease.AgeOut epochs reserve) = true
decreases (decrease.AgeOutWithThreshold upper epochs reserve) = true

-- "off, or by threshold with a lower rate and a multiplier, in [0,1] and (1,2]"
abbrev pub increase_allowed : Increase → Bool
increase_allowed increase.Off = true
increase_allowed (increase.Threshold lower multiplier) = unit lower && open_below (decimal 1 1) (decimal 2 1) multiplier

-- "off, or multiple [0.1,10] and threshold [0.1,1]"
abbrev pub flash_allowed : Flash → Bool
flash_allowed flash.Off = true
flash_allowed (flash.On multiple threshold) = closed (decimal 1 10) (decimal 10 1) multiple && closed (decimal 1 10) (decimal 1 1) threshold

-- "upper rate (threshold, age-out with threshold), multiplier (threshold), reserve (both age-outs) each in [0,1], epochs (both age-outs) 1 to 10"
abbrev pub decrease_allowed : Decrease → Bool
decrease_allowed decrease.Off = true
decrease_allowed (decrease.Threshold upper multiplier) = unit upper && unit multiplier
decrease_allowed (decrease.AgeOut epochs reserve) = within fewest_epochs most_epochs epochs && unit reserve
decrease_allowed (decrease.AgeOutWithThreshold upper epochs reserve) = unit upper && within fewest_epochs most_epochs epochs && unit reserve

-- "lower rate is below upper where both count": the increase rule is on, and the decrease rule has an upper rate
abbrev pub below_upper : Float → Decrease → Bool
below_upper lower decrease.Off = true
below_upper lower (decrease.Threshold upper multiplier) = lt lower upper
below_upper lower (decrease.AgeOut epochs reserve) = true
below_upper lower (decrease.AgeOutWithThreshold upper epochs reserve) = lt lower upper

abbrev pub rates_in_order : Increase → Decrease → Bool
rates_in_order increase.Off d = true
rates_in_order (increase.Threshold lower multiplier) d = below_upper lower d

-- ---- the fields

module _ (s : Settings) where
  -- 1 "is bad if evictions are off while the increase, flash or decrease rule is on"
  abbrev pub bad_evictions : Bool
  bad_evictions = not s.evictions && (increases s.increase || flashes s.flash || decreases s.decrease)

  -- 2 "opening needs the initial size set"
  abbrev pub bad_preset : Bool → Bool
  bad_preset opening = opening && not s.preset

  -- 3 "initial size, in [minimum size, maximum size] if set"
  abbrev pub bad_initial : Bool
  bad_initial = s.preset && not (within s.smallest s.largest s.initial)

  -- 4 "minimum clean fraction [0,1]"
  abbrev pub bad_clean : Bool
  bad_clean = not (unit s.clean)

  -- 5 "maximum size, 6 minimum size, both in [1,024, 134,217,728]"
  abbrev pub bad_largest : Bool
  bad_largest = not (size_allowed s.largest)

  -- 6 "not above 5"
  abbrev pub bad_smallest : Bool
  bad_smallest = not (size_allowed s.smallest) || ltb s.largest s.smallest

  -- 7 "epoch length [100, 1,000,000]"
  abbrev pub bad_epoch : Bool
  bad_epoch = not (within shortest_epoch longest_epoch s.epoch)

  -- 8 "increase rule", and "also if lower rate is not below upper where both count"
  abbrev pub bad_increase : Bool
  bad_increase = not (increase_allowed s.increase) || not (rates_in_order s.increase s.decrease)

  -- 9 "cap on one increase"
  abbrev pub bad_increment : Bool
  bad_increment = not (cap_allowed s.increment)

  -- 10 "flash rule"
  abbrev pub bad_flash : Bool
  bad_flash = not (flash_allowed s.flash)

  -- 11 "decrease rule"
  abbrev pub bad_decrease : Bool
  bad_decrease = not (decrease_allowed s.decrease)

  -- 12 "cap on one decrease, like 9"
  abbrev pub bad_decrement : Bool
  bad_decrement = not (cap_allowed s.decrement)

-- ---- the lowest bad field

-- the place of the first that is true, counted from n, and 0 if none is
abbrev pub first_true : ℕ → List Bool → ℕ
first_true n [] = 0
first_true n (b ∷ bs) = cond b n (first_true (suc n) bs)

-- whether each field is bad, in the fields' order
abbrev pub bad_fields : Settings → Bool → List Bool
bad_fields s opening =
    bad_evictions s
    ∷ bad_preset s opening
    ∷ bad_initial s
    ∷ bad_clean s
    ∷ bad_largest s
    ∷ bad_smallest s
    ∷ bad_epoch s
    ∷ bad_increase s
    ∷ bad_increment s
    ∷ bad_flash s
    ∷ bad_decrease s
    ∷ bad_decrement s
    ∷ []

-- "the lowest bad field's number", 0 if none is bad
unfoldable pub first_bad : Settings → Bool → ℕ
first_bad s opening = first_true 1 (bad_fields s opening)
