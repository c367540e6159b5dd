-- Worked cases of settings as numbers, shown by computation: one table, and one statement that each case of it holds.
use Rattle.std.specs.Prelude.{ℕ, true, false, List, [], ◌∷◌, ◌≡◌, refl, Float}
use Rattle.std.specs.Float.Ieee.{round, le, lt, eq}
use Rattle.fraction.specs.Examples.{every}
use Rattle.fraction.specs.Fraction.{decimal}
use Rattle.settings.specs.declared.Mode.{Mode}
use Rattle.settings.specs.Defaults.{default_clean, defaults}
use Rattle.settings.specs.Examples.{Case, gives, holds}
use Rattle.settings.specs.Validation.{first_bad}
use Rattle.numbers.specs.Meanings.{meaning, increase_of_raw, cap_of_raw, flash_of_raw, decrease_of_raw, settings_of_raw}
use Rattle.numbers.specs.declared.raw.RawSettings.{RawSettings}

-- The header's default settings with a clean fraction and these flags and kinds: evictions, preset; increase, increment, flash, decrease,
-- decrement.
unfoldable pub raw_with : Float → ℕ → ℕ → ℕ → ℕ → ℕ → ℕ → ℕ → RawSettings
raw_with clean evictions preset increase increment flash decrease decrement = record {
  evictions = evictions;
  preset = preset;
  initial = 2097152;
  clean = clean;
  largest = 33554432;
  smallest = 1048576;
  epoch = 50000;
  increase = record { kind = increase; lower = decimal 9 10; multiplier = decimal 2 1 };
  increment = record { kind = increment; bytes = 4194304 };
  flash = record { kind = flash; multiple = decimal 1 1; threshold = decimal 25 100 };
  decrease = record {
    kind = decrease;
    upper = decimal 999 1000;
    multiplier = decimal 0 1;
    epochs = 3;
    reserve = decimal 1 10;
  };
  decrement = record { kind = decrement; bytes = 1048576 };
}

abbrev raw : ℕ → ℕ → ℕ → ℕ → ℕ → ℕ → ℕ → RawSettings
raw evictions preset increase increment flash decrease decrement = raw_with (decimal 3 10) evictions preset increase increment flash decrease decrement

-- They stand for the default settings of each mode.
pub default_settings : (m : Mode) → settings_of_raw (raw_with (default_clean m) 1 1 1 1 1 3 1) ≡ defaults m
unfolding raw_with settings_of_raw increase_of_raw cap_of_raw flash_of_raw decrease_of_raw meaning defaults
default_settings m = refl

pub cases : List Case
unfolding raw_with
cases =
    gives (settings_of_raw (raw 1 1 1 1 1 3 1)) true 0
    -- a flag is on if it is not 0
    ∷ gives (settings_of_raw (raw 2 7 1 1 1 3 1)) true 0
    ∷ gives (settings_of_raw (raw 0 1 1 1 1 3 1)) true 1
    ∷ gives (settings_of_raw (raw 1 0 1 1 1 3 1)) true 2
    ∷ gives (settings_of_raw (raw 1 0 1 1 1 3 1)) false 0
    -- every kind
    ∷ gives (settings_of_raw (raw 0 1 0 0 0 0 0)) true 0
    ∷ gives (settings_of_raw (raw 1 1 1 0 1 1 0)) true 0
    ∷ gives (settings_of_raw (raw 1 1 0 1 0 2 1)) true 0
    -- an unknown kind is its field's fault
    ∷ gives (settings_of_raw (raw 1 1 2 1 1 3 1)) true 8
    ∷ gives (settings_of_raw (raw 1 1 1 2 1 3 1)) true 9
    ∷ gives (settings_of_raw (raw 1 1 1 1 2 3 1)) true 10
    ∷ gives (settings_of_raw (raw 1 1 1 1 1 4 1)) true 11
    ∷ gives (settings_of_raw (raw 1 1 1 1 1 3 2)) true 12
    -- and a rule of an unknown kind is not off
    ∷ gives (settings_of_raw (raw 0 1 2 1 0 0 1)) true 1
    ∷ []

pub cases_hold : every holds cases ≡ true
unfolding cases every holds raw_with settings_of_raw increase_of_raw cap_of_raw flash_of_raw decrease_of_raw meaning first_bad round le lt eq
cases_hold = refl
