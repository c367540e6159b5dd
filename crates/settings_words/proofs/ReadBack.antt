-- What the words of settings stand for is these settings, so settings with the same words are the same. Assumes nothing.
use Rattle.std.specs.Prelude.{None, Some}
use Prim.Native.Nat.{ℕ}
use mathlib.Core.Path.{◌≡◌, refl, sym, ap, ◌∙◌}
use mathlib.Core.Bool.{Bool, true, false}
use mathlib.Core.List.{List, [], ◌++◌}
use lib.ListN.{get_or}
use lib.Ieee.{Float, binary64}
use lib.Ieee.Bits.{of_bits-to_bits}
use Rattle.settings.specs.declared.Settings.{Settings}
use Rattle.settings.specs.declared.Increase.{Increase}
use Rattle.settings.specs.declared.Increase.TheVariants as increase
use Rattle.settings.specs.Types.{Cap}
use Rattle.settings.specs.declared.Flash.{Flash}
use Rattle.settings.specs.declared.Flash.TheVariants as flash
use Rattle.settings.specs.declared.Decrease.{Decrease}
use Rattle.settings.specs.declared.Decrease.TheVariants as decrease
use Rattle.settings_words.specs.Words.{word, flag_word, flag_of, cap_words, increase_words, flash_words, decrease_words, settings_words}
use Rattle.settings_words.specs.FloatsFit.{FloatFits, IncreaseFits, FlashFits, DecreaseFits, FloatsFit}
use Rattle.settings_words.specs.Picture.{float, cap_of, increase_of, flash_of, decrease_of, settings_of}
use Rattle.settings_words.proofs.Flat.{words_flat}

float_back : (x : Float) → FloatFits x → float (word x) ≡ x
float_back x h = of_bits-to_bits binary64 x h

pub flag_back : (b : Bool) → flag_of (flag_word b) ≡ b
flag_back true = refl
flag_back false = refl

cap_back : (c : Cap) → cap_of (get_or (cap_words c) 0 0) (get_or (cap_words c) 1 0) ≡ c
cap_back None = refl
cap_back (Some n) = refl

increase_back : (i : Increase) → IncreaseFits i → increase_of (get_or (increase_words i) 0 0) (get_or (increase_words i) 1 0) (get_or (increase_words i) 2 0) ≡ i
increase_back increase.Off h = refl
increase_back (increase.Threshold l m) h = rw (float_back l h.0, float_back m h.1)

flash_back : (f : Flash) → FlashFits f → flash_of (get_or (flash_words f) 0 0) (get_or (flash_words f) 1 0) (get_or (flash_words f) 2 0) ≡ f
flash_back flash.Off h = refl
flash_back (flash.On m k) h = rw (float_back m h.0, float_back k h.1)

decrease_back : (d : Decrease) → DecreaseFits d → decrease_of (get_or (decrease_words d) 0 0) (get_or (decrease_words d) 1 0) (get_or (decrease_words d) 2 0) (get_or (decrease_words d) 3 0) ≡ d
decrease_back decrease.Off h = refl
decrease_back (decrease.Threshold u m) h = rw (float_back u h.0, float_back m h.1)
decrease_back (decrease.AgeOut n r) h = rw (float_back r h)
decrease_back (decrease.AgeOutWithThreshold u n r) h = rw (float_back u h.0, float_back r h.1)

pub read_back : (s : Settings) (rest : List ℕ) → FloatsFit s → settings_of (settings_words s ++ rest) ≡ s
unfolding settings_of
read_back s rest h =
    rw (
      words_flat s,
      flag_back s.evictions,
      flag_back s.preset,
      float_back s.clean h.clean,
      increase_back s.increase h.increase,
      cap_back s.increment,
      flash_back s.flash h.flash,
      decrease_back s.decrease h.decrease,
      cap_back s.decrement,
    )

pub unique : (s t : Settings) → FloatsFit s → FloatsFit t → settings_words s ≡ settings_words t → s ≡ t
unique s t h k e = sym (read_back s [] h) ∙ ap (λ (ws : List ℕ). settings_of (ws ++ [])) e ∙ read_back t [] k
