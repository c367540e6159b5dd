-- That each float of the settings is one that the format holds, as every f64 of a program is. Definitions only.
use Rattle.std.specs.Prelude.{T, Float}
use Rattle.std.specs.Float.{binary64}
use Rattle.std.specs.Float.Ieee.{fits}
use Rattle.settings.specs.declared.Settings.{Settings}
use Rattle.settings.specs.declared.Increase.{Increase}
use Rattle.settings.specs.declared.Increase.TheVariants as increase
use Rattle.settings.specs.declared.Flash.{Flash}
use Rattle.settings.specs.declared.Flash.TheVariants as flash
use Rattle.settings.specs.declared.Decrease.{Decrease}
use Rattle.settings.specs.declared.Decrease.TheVariants as decrease

abbrev pub FloatFits : Float → Type 0
FloatFits x = T (fits binary64 x)

abbrev pub IncreaseFits : Increase → Type 0
IncreaseFits increase.Off = Unit
IncreaseFits (increase.Threshold lower multiplier) = FloatFits lower × FloatFits multiplier

abbrev pub FlashFits : Flash → Type 0
FlashFits flash.Off = Unit
FlashFits (flash.On multiple threshold) = FloatFits multiple × FloatFits threshold

abbrev pub DecreaseFits : Decrease → Type 0
DecreaseFits decrease.Off = Unit
DecreaseFits (decrease.Threshold upper multiplier) = FloatFits upper × FloatFits multiplier
DecreaseFits (decrease.AgeOut epochs reserve) = FloatFits reserve
DecreaseFits (decrease.AgeOutWithThreshold upper epochs reserve) = FloatFits upper × FloatFits reserve

pub record FloatsFit (s : Settings) : Type 0 where
  pub clean : FloatFits s.clean
  pub increase : IncreaseFits s.increase
  pub flash : FlashFits s.flash
  pub decrease : DecreaseFits s.decrease
