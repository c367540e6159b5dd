-- Worked cases, shown by computation: one table, and one statement that each case of it holds. Assumes nothing.
use Rattle.std.specs.Prelude.{ℕ, ◌≡◌, refl, Bool, true, false, List, [], ◌∷◌, eqb, pos, Float, None}
use Rattle.std.specs.Float.{nan, inf, fin}
use Rattle.std.specs.Float.Ieee.{round, le, lt, eq}
use Rattle.fraction.specs.Fraction.{decimal}
use Rattle.fraction.specs.Examples.{every}
use Rattle.settings.specs.declared.Mode.TheVariants.{Alone, Lead, Standby}
use Rattle.settings.specs.declared.Settings.{Settings}
use Rattle.settings.specs.declared.Increase.{Increase}
use Rattle.settings.specs.declared.Increase.TheVariants as increase
use Rattle.settings.specs.declared.Flash.TheVariants as flash
use Rattle.settings.specs.declared.Decrease.{Decrease}
use Rattle.settings.specs.declared.Decrease.TheVariants as decrease
use Rattle.settings.specs.Defaults.{defaults}
use Rattle.settings.specs.Validation.{first_bad}

abbrev zero : Float
zero = decimal 0 1

abbrev half : Float
half = decimal 1 2

abbrev one : Float
one = decimal 1 1

abbrev two : Float
two = decimal 2 1

-- settings, whether a cache is opened with them, and the lowest bad field's number
pub data Case : Type 0 where
  gives : Settings → Bool → ℕ → Case

unfoldable pub holds : Case → Bool
unfolding first_bad
holds (gives s opening n) = eqb (first_bad s opening) n

-- settings with no cap and no flash rule, and an initial size of 4,096
unfoldable sample : Bool → Bool → Float → ℕ → ℕ → Increase → Decrease → Settings
sample evictions preset clean largest smallest i d = record {
  evictions = evictions;
  preset = preset;
  initial = 4096;
  clean = clean;
  largest = largest;
  smallest = smallest;
  epoch = 100;
  increase = i;
  increment = None;
  flash = flash.Off;
  decrease = d;
  decrement = None;
}

abbrev with_clean : Float → Settings
with_clean clean = sample true true clean 16384 1024 increase.Off decrease.Off

abbrev with_sizes : Bool → ℕ → ℕ → Settings
with_sizes preset largest smallest = sample true preset zero largest smallest increase.Off decrease.Off

abbrev with_rules : Bool → Increase → Decrease → Settings
with_rules evictions i d = sample evictions true zero 16384 1024 i d

pub cases : List Case
cases =
    -- the default settings of each mode
    gives (defaults Alone) false 0
    ∷ gives (defaults Alone) true 0
    ∷ gives (defaults Lead) false 0
    ∷ gives (defaults Lead) true 0
    ∷ gives (defaults Standby) true 0
    -- field 1: evictions off while a rule is on
    ∷ gives (with_rules false increase.Off decrease.Off) true 0
    ∷ gives (with_rules false (increase.Threshold half two) decrease.Off) true 1
    -- field 2: the initial size is not set
    ∷ gives (with_sizes false 16384 1024) false 0
    ∷ gives (with_sizes false 16384 1024) true 2
    -- field 3: judged against 5 and 6 as given, also where these are bad
    ∷ gives (with_sizes true 1023 1023) true 3
    -- field 4: -0.0 is in [0,1]; infinity and what is no number are not
    ∷ gives (with_clean (fin true 0 (pos 0))) true 0
    ∷ gives (with_clean one) true 0
    ∷ gives (with_clean nan) true 4
    ∷ gives (with_clean (inf false)) true 4
    -- fields 5 and 6: both ends are allowed, 6 above 5 is 6's fault, and of two bad fields the lower number is given
    ∷ gives (with_sizes true 134217728 1024) true 0
    ∷ gives (with_sizes false 1024 134217728) false 6
    ∷ gives (with_sizes false 1023 1023) false 5
    -- field 8: a multiplier in (1,2], and the lower rate below the upper
    ∷ gives (with_rules true (increase.Threshold half one) decrease.Off) true 8
    ∷ gives (with_rules true (increase.Threshold half two) decrease.Off) true 0
    ∷ gives (with_rules true (increase.Threshold half two) (decrease.Threshold half one)) true 8
    ∷ gives (with_rules true (increase.Threshold half two) (decrease.Threshold nan one)) true 8
    ∷ gives (with_rules true (increase.Threshold half two) (decrease.Threshold one one)) true 0
    -- field 11: an upper rate in [0,1], and 1 to 10 epochs
    ∷ gives (with_rules true (increase.Threshold half two) (decrease.Threshold two one)) true 11
    ∷ gives (with_rules true increase.Off (decrease.AgeOut 0 one)) true 11
    ∷ gives (with_rules true increase.Off (decrease.AgeOut 10 one)) true 0
    ∷ gives (with_rules true increase.Off (decrease.AgeOut 11 one)) true 11
    ∷ []

pub cases_hold : every holds cases ≡ true
unfolding cases every holds sample defaults round le lt eq
cases_hold = refl
