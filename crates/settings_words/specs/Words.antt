-- The 21 words of the settings. Definitions only.
use Rattle.std.specs.Prelude.{ℕ, Bool, true, false, not, List, [], ◌∷◌, ◌++◌, eqb, Float, None, Some}
use Rattle.std.specs.Float.{binary64}
use Rattle.std.specs.Float.Ieee.{to_bits}
use Rattle.settings.specs.declared.Settings.{Settings}
use Rattle.settings.specs.declared.Increase.{Increase}
use Rattle.settings.specs.declared.Increase.TheVariants as increase
use Rattle.settings.specs.Types.{Cap}
use Rattle.settings.specs.declared.Flash.{Flash}
use Rattle.settings.specs.declared.Flash.TheVariants as flash
use Rattle.settings.specs.declared.Decrease.{Decrease}
use Rattle.settings.specs.declared.Decrease.TheVariants as decrease

abbrev pub word : Float → ℕ
word x = to_bits binary64 x

abbrev pub flag_word : Bool → ℕ
flag_word true = 1
flag_word false = 0

abbrev pub flag_of : ℕ → Bool
flag_of w = not (eqb w 0)

-- the kind and the bytes
abbrev pub cap_words : Cap → List ℕ
cap_words None = 0 ∷ 0 ∷ []
cap_words (Some bytes) = 1 ∷ bytes ∷ []

-- the kind, the lower rate and the multiplier
abbrev pub increase_words : Increase → List ℕ
increase_words increase.Off = 0 ∷ 0 ∷ 0 ∷ []
increase_words (increase.Threshold lower multiplier) = 1 ∷ word lower ∷ word multiplier ∷ []

-- the kind, the multiple and the threshold
abbrev pub flash_words : Flash → List ℕ
flash_words flash.Off = 0 ∷ 0 ∷ 0 ∷ []
flash_words (flash.On multiple threshold) = 1 ∷ word multiple ∷ word threshold ∷ []

-- the kind, the upper rate, the epochs, and the multiplier or the reserve
abbrev pub decrease_words : Decrease → List ℕ
decrease_words decrease.Off = 0 ∷ 0 ∷ 0 ∷ 0 ∷ []
decrease_words (decrease.Threshold upper multiplier) = 1 ∷ word upper ∷ 0 ∷ word multiplier ∷ []
decrease_words (decrease.AgeOut epochs reserve) = 2 ∷ 0 ∷ epochs ∷ word reserve ∷ []
decrease_words (decrease.AgeOutWithThreshold upper epochs reserve) = 3 ∷ word upper ∷ epochs ∷ word reserve ∷ []

unfoldable pub settings_words : Settings → List ℕ
settings_words s =
    flag_word s.evictions ∷ flag_word s.preset ∷ s.initial ∷ word s.clean ∷ s.largest ∷ s.smallest ∷ s.epoch
    ∷ (increase_words s.increase ++ (cap_words s.increment ++ (flash_words s.flash ++ (decrease_words s.decrease ++ cap_words s.decrement))))
