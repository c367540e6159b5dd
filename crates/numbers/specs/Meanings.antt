-- What the numbers that a host gives stand for.
use Rattle.std.specs.Prelude.{ℕ, List, [], ◌∷◌, ◌++◌, eqb, if◌then◌else◌, Option, None, Some, unwrap_or}
use Rattle.fraction.specs.Fraction.{decimal}
use Rattle.settings.specs.declared.Settings.{Settings}
use Rattle.settings.specs.declared.Increase.{Increase}
use Rattle.settings.specs.declared.Increase.TheVariants as increase
use Rattle.settings.specs.Types.{Cap}
use Rattle.settings.specs.declared.Flash.{Flash}
use Rattle.settings.specs.declared.Flash.TheVariants as flash
use Rattle.settings.specs.declared.Decrease.{Decrease}
use Rattle.settings.specs.declared.Decrease.TheVariants as decrease
use Rattle.settings_words.specs.Words.{flag_of}
use Rattle.rules.specs.Limits.{all_ones}
use Rattle.rules.specs.declared.request.Access.TheVariants.{Reading, Writing}
use Rattle.settings.specs.declared.Mode.{Mode}
use Rattle.settings.specs.declared.Mode.TheVariants.{Alone, Lead, Standby}
use Rattle.rules.specs.declared.request.Request.{Request}
use Rattle.rules.specs.declared.request.Request.TheVariants.{Insert, Protect, Release, ReleaseChanged, Pin, Unpin, Resize, Discard, Flush, Sync, Take, Configure}
use Rattle.numbers.specs.declared.raw.RawCap.{RawCap}
use Rattle.numbers.specs.declared.raw.RawDecrease.{RawDecrease}
use Rattle.numbers.specs.declared.raw.RawFlash.{RawFlash}
use Rattle.numbers.specs.declared.raw.RawIncrease.{RawIncrease}
use Rattle.numbers.specs.declared.raw.RawRequest.{RawRequest}
use Rattle.numbers.specs.declared.raw.RawSettings.{RawSettings}
use Rattle.numbers.specs.Types.{Asked}

-- ---- numbers and what they stand for

-- What a number stands for by a list of numbers and meanings; nothing if the list has not the number.
unfoldable pub meaning : {A : Type 0} → List (ℕ × A) → ℕ → Option A
meaning [] n = None
meaning (m ∷ rest) n = if eqb n m.0 then Some m.1 else meaning rest n

-- ---- the mode

unfoldable pub mode_of_raw : ℕ → Option Mode
mode_of_raw n = meaning ((0, Alone) ∷ (1, Lead) ∷ (2, Standby) ∷ []) n

-- ---- the settings

-- An unknown kind stands for a rule that is on and out of its range, or for a cap above its limit. Words that the kind
-- does not name are not read.
unfoldable pub increase_of_raw : RawIncrease → Increase
increase_of_raw w =
    unwrap_or
    (meaning ((0, increase.Off) ∷ (1, increase.Threshold w.lower w.multiplier) ∷ []) w.kind)
    (increase.Threshold (decimal 0 1) (decimal 0 1))

unfoldable pub cap_of_raw : RawCap → Cap
cap_of_raw w = unwrap_or (meaning ((0, None) ∷ (1, Some w.bytes) ∷ []) w.kind) (Some all_ones)

unfoldable pub flash_of_raw : RawFlash → Flash
flash_of_raw w =
    unwrap_or
    (meaning ((0, flash.Off) ∷ (1, flash.On w.multiple w.threshold) ∷ []) w.kind)
    (flash.On (decimal 0 1) (decimal 0 1))

unfoldable pub decrease_of_raw : RawDecrease → Decrease
decrease_of_raw w =
    unwrap_or
    (meaning
    ((0, decrease.Off)
    ∷ (1, decrease.Threshold w.upper w.multiplier)
    ∷ (2, decrease.AgeOut w.epochs w.reserve)
    ∷ (3, decrease.AgeOutWithThreshold w.upper w.epochs w.reserve)
    ∷ [])
    w.kind)
    (decrease.AgeOut 0 (decimal 0 1))

-- A flag is off if it is 0, else on.
unfoldable pub settings_of_raw : RawSettings → Settings
settings_of_raw w = record {
  evictions = flag_of w.evictions;
  preset = flag_of w.preset;
  initial = w.initial;
  clean = w.clean;
  largest = w.largest;
  smallest = w.smallest;
  epoch = w.epoch;
  increase = increase_of_raw w.increase;
  increment = cap_of_raw w.increment;
  flash = flash_of_raw w.flash;
  decrease = decrease_of_raw w.decrease;
  decrement = cap_of_raw w.decrement;
}

-- ---- the request

abbrev pub asked : Option Request → Asked
asked None = None
asked (Some r) = Some r

-- The requests that an address and a size are enough for have the kinds 1 to 11.
abbrev pub plain_kinds : ℕ → ℕ → List (ℕ × Request)
plain_kinds a s =
    (1, Insert a s)
    ∷ (2, Protect Reading a s)
    ∷ (3, Protect Writing a s)
    ∷ (4, Release a)
    ∷ (5, ReleaseChanged a s)
    ∷ (6, Pin a)
    ∷ (7, Unpin a)
    ∷ (8, Resize a s)
    ∷ (9, Discard a)
    ∷ (10, Flush)
    ∷ (11, Sync)
    ∷ []

unfoldable pub plain_of : ℕ → ℕ → ℕ → Option Request
plain_of k a s = meaning (plain_kinds a s) k

-- All have the kinds 1 to 13.
unfoldable pub asked_of_raw : RawRequest → Asked
asked_of_raw w =
    asked (meaning (plain_kinds w.address w.size ++ (12, Take) ∷ (13, Configure (settings_of_raw w.settings)) ∷ []) w.kind)
