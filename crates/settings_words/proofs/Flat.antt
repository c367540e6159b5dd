-- The words of the settings one by one. Assumes nothing.
use Rattle.std.specs.Prelude.{None, Some}
use Prim.Native.Nat.{ℕ}
use mathlib.Core.Path.{◌≡◌, refl, ap}
use mathlib.Core.List.{List, [], ◌∷◌, ◌++◌}
use lib.ListN.{get_or, length}
use Rattle.settings.specs.declared.Settings.{Settings}
use Rattle.settings.specs.declared.Increase.{Increase}
use Rattle.settings.specs.declared.Increase.TheVariants as increase
use Rattle.settings.specs.Types.{Cap}
use Rattle.settings.specs.declared.Flash.{Flash}
use Rattle.settings.specs.declared.Flash.TheVariants as flash
use Rattle.settings.specs.declared.Decrease.{Decrease}
use Rattle.settings.specs.declared.Decrease.TheVariants as decrease
use Rattle.settings_words.specs.Words.{word, flag_word, cap_words, increase_words, flash_words, decrease_words, settings_words}

-- the first words of a run, one by one, and the rest
abbrev two : List ℕ → List ℕ → List ℕ
two l t = get_or l 0 0 ∷ get_or l 1 0 ∷ t

abbrev three : List ℕ → List ℕ → List ℕ
three l t = get_or l 0 0 ∷ get_or l 1 0 ∷ get_or l 2 0 ∷ t

abbrev four : List ℕ → List ℕ → List ℕ
four l t = get_or l 0 0 ∷ get_or l 1 0 ∷ get_or l 2 0 ∷ get_or l 3 0 ∷ t

of_cap : (c : Cap) → cap_words c ≡ two (cap_words c) []
of_cap None = refl
of_cap (Some n) = refl

module _ (t : List ℕ) where
  of_cap_then : (c : Cap) → cap_words c ++ t ≡ two (cap_words c) t
  of_cap_then None = refl
  of_cap_then (Some n) = refl

  of_increase : (i : Increase) → increase_words i ++ t ≡ three (increase_words i) t
  of_increase increase.Off = refl
  of_increase (increase.Threshold l m) = refl

  of_flash : (f : Flash) → flash_words f ++ t ≡ three (flash_words f) t
  of_flash flash.Off = refl
  of_flash (flash.On m k) = refl

  of_decrease : (d : Decrease) → decrease_words d ++ t ≡ four (decrease_words d) t
  of_decrease decrease.Off = refl
  of_decrease (decrease.Threshold u m) = refl
  of_decrease (decrease.AgeOut n r) = refl
  of_decrease (decrease.AgeOutWithThreshold u n r) = refl

module _ (s : Settings) where
  -- the words of the settings, by those of the flags, of the clean fraction and of each cap and rule
  abbrev flat : ℕ → ℕ → ℕ → List ℕ → List ℕ → List ℕ → List ℕ → List ℕ → List ℕ
  flat evictions preset clean i ic f d dc =
      evictions ∷ preset ∷ s.initial ∷ clean ∷ s.largest ∷ s.smallest ∷ s.epoch ∷ three i (two ic (three f (four d (two dc []))))

  pub words_flat : settings_words s ≡ flat (flag_word s.evictions) (flag_word s.preset) (word s.clean) (increase_words s.increase) (cap_words s.increment) (flash_words s.flash) (decrease_words s.decrease) (cap_words s.decrement)
  unfolding settings_words
  words_flat = rw (of_cap s.decrement, of_decrease _ s.decrease, of_flash _ s.flash, of_cap_then _ s.increment, of_increase _ s.increase)

  pub words_length : length (settings_words s) ≡ 21
  words_length = ap length words_flat
