-- An unknown kind of a rule or a cap makes its field bad: the settings are refused by its number or a lower one.
use Prim.Native.Nat.{ℕ, zero, suc, ◌+◌, ◌<◌, ◌≤◌}
use mathlib.Core.Bool.{Bool, true, false, false≢true}
use mathlib.Core.List.{List, [], ◌∷◌}
use Rattle.std.specs.Prelude.{None}
use mathlib.Core.Path.{◌≡◌, refl}
use native.Mathlib.Omega.{arith}
use lib.Ieee.{le, lt, round}
use lib.ListN.{get_or}
use borrow.Author.Tests.{ne_eqb}
use Rattle.fraction.specs.Fraction.{decimal}
use Rattle.settings.specs.Validation.{rates_in_order, bad_increase, bad_increment, bad_flash, bad_decrease, bad_decrement, bad_fields, first_bad, first_true}
use Rattle.settings.specs.declared.Decrease.TheVariants as decrease
use Rattle.settings.specs.declared.Increase.{Increase}
use Rattle.settings.specs.declared.Increase.TheVariants as increase
use Rattle.settings.specs.declared.Settings.{Settings}
use Rattle.numbers.specs.Meanings.{meaning, increase_of_raw, cap_of_raw, flash_of_raw, decrease_of_raw, settings_of_raw}
use Rattle.numbers.specs.declared.raw.RawDecrease.{RawDecrease}
use Rattle.numbers.specs.declared.raw.RawSettings.{RawSettings}
use Rattle.numbers.proofs.Listed.{neither}

-- a kind above 1, where 0 and 1 are known
neither_kind : {A : Type 0} (x y : A) (n : ℕ) → 1 < n → meaning ((0, x) ∷ (1, y) ∷ []) n ≡ None
neither_kind x y n h = neither 0 1 x y n (λ e. omega arith) (λ e. omega arith)

-- a kind above 3 of a decrease rule
no_decrease : (d : RawDecrease) → 3 < d.kind → decrease_of_raw d ≡ decrease.AgeOut 0 (decimal 0 1)
unfolding decrease_of_raw meaning
no_decrease d h =
    let n = d.kind in
    rw (ne_eqb n 0 (λ e. omega arith), ne_eqb n 1 (λ e. omega arith), ne_eqb n 2 (λ e. omega arith), ne_eqb n 3 (λ e. omega arith))

module _ (w : RawSettings) where
  pub unknown_increase : 1 < w.increase.kind → bad_increase (settings_of_raw w) ≡ true
  unfolding settings_of_raw increase_of_raw le lt round
  unknown_increase h = rw (neither_kind _ _ w.increase.kind h)

  pub unknown_increment : 1 < w.increment.kind → bad_increment (settings_of_raw w) ≡ true
  unfolding settings_of_raw cap_of_raw
  unknown_increment h = rw (neither_kind _ _ w.increment.kind h)

  pub unknown_flash : 1 < w.flash.kind → bad_flash (settings_of_raw w) ≡ true
  unfolding settings_of_raw flash_of_raw le lt round
  unknown_flash h = rw (neither_kind _ _ w.flash.kind h)

  pub unknown_decrease : 3 < w.decrease.kind → bad_decrease (settings_of_raw w) ≡ true
  unfolding settings_of_raw
  unknown_decrease h = rw (no_decrease w.decrease h)

  -- it has no upper rate, so field 8 is judged without one
  pub unknown_decrease_rates : 3 < w.decrease.kind → (i : Increase) → rates_in_order i (settings_of_raw w).decrease ≡ true
  unfolding settings_of_raw
  unknown_decrease_rates h increase.Off = refl
  unknown_decrease_rates h (increase.Threshold lower multiplier) = rw (no_decrease w.decrease h)

  pub unknown_decrement : 1 < w.decrement.kind → bad_decrement (settings_of_raw w) ≡ true
  unfolding settings_of_raw cap_of_raw
  unknown_decrement h = rw (neither_kind _ _ w.decrement.kind h)

-- the first that is true stands no later than one that is
first_by : (n : ℕ) (bs : List Bool) (k : ℕ) → get_or bs k false ≡ true → (n ≤ first_true n bs) × (first_true n bs ≤ n + k)
first_by n [] k h = absurd (false≢true h)
first_by n (true ∷ bs) k h = (omega arith, omega arith)
first_by n (false ∷ bs) zero h = absurd (false≢true h)
first_by n (false ∷ bs) (suc k) h = let r = first_by (suc n) bs k h in (omega arith, omega arith)

-- settings with a bad field are refused by its number or a lower one
pub refused_by : (s : Settings) (opening : Bool) (k : ℕ) → get_or (bad_fields s opening) k false ≡ true → (1 ≤ first_bad s opening) × (first_bad s opening ≤ 1 + k)
unfolding first_bad
refused_by s opening k h = first_by 1 (bad_fields s opening) k h
