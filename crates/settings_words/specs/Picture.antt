-- The settings that 21 words stand for, and which words are a picture of settings. Definitions only.
use Rattle.std.specs.Prelude.{ℕ, Bool, false, ◌&&◌, cond, List, eqb, get_or, Float, None, Some}
use Rattle.std.specs.List.{starts_with}
use Rattle.std.specs.Float.{binary64}
use Rattle.std.specs.Float.Ieee.{of_bits}
use Rattle.settings.specs.declared.Settings.{Settings}
use Rattle.settings.specs.declared.Increase.{Increase}
use Rattle.settings.specs.declared.Increase.TheVariants as increase
use Rattle.settings.specs.Types.{Cap}
use Rattle.settings.specs.declared.Flash.{Flash}
use Rattle.settings.specs.declared.Flash.TheVariants as flash
use Rattle.settings.specs.declared.Decrease.{Decrease}
use Rattle.settings.specs.declared.Decrease.TheVariants as decrease
use Rattle.settings.specs.Validation.{first_bad}
use Rattle.settings_words.specs.Words.{flag_of, settings_words}

-- ---- the settings of any words; a kind that stands for nothing is read as the last kind

abbrev pub float : ℕ → Float
float w = of_bits binary64 w

abbrev pub cap_of : ℕ → ℕ → Cap
cap_of kind bytes = cond (eqb kind 0) None (Some bytes)

abbrev pub increase_of : ℕ → ℕ → ℕ → Increase
increase_of kind lower multiplier = cond (eqb kind 0) increase.Off (increase.Threshold (float lower) (float multiplier))

abbrev pub flash_of : ℕ → ℕ → ℕ → Flash
flash_of kind multiple threshold = cond (eqb kind 0) flash.Off (flash.On (float multiple) (float threshold))

abbrev pub decrease_of : ℕ → ℕ → ℕ → ℕ → Decrease
decrease_of kind upper epochs last =
    cond (eqb kind 0) decrease.Off
    (cond (eqb kind 1) (decrease.Threshold (float upper) (float last))
    (cond (eqb kind 2) (decrease.AgeOut epochs (float last)) (decrease.AgeOutWithThreshold (float upper) epochs (float last))))

unfoldable pub settings_of : List ℕ → Settings
settings_of ws = record {
  evictions = flag_of (get_or ws 0 0);
  preset = flag_of (get_or ws 1 0);
  initial = get_or ws 2 0;
  clean = float (get_or ws 3 0);
  largest = get_or ws 4 0;
  smallest = get_or ws 5 0;
  epoch = get_or ws 6 0;
  increase = increase_of (get_or ws 7 0) (get_or ws 8 0) (get_or ws 9 0);
  increment = cap_of (get_or ws 10 0) (get_or ws 11 0);
  flash = flash_of (get_or ws 12 0) (get_or ws 13 0) (get_or ws 14 0);
  decrease = decrease_of (get_or ws 15 0) (get_or ws 16 0) (get_or ws 17 0) (get_or ws 18 0);
  decrement = cap_of (get_or ws 19 0) (get_or ws 20 0);
}

-- ---- pictures

-- configuring passes the settings, and the words start with the settings' own
unfoldable pub picture : List ℕ → Bool
picture ws = eqb (first_bad (settings_of ws) false) 0 && starts_with eqb ws (settings_words (settings_of ws))
