-- When a float, or the float of a word, is no number. Assumes nothing.
use Rattle.std.proofs.Common.{◌≡◌, ℕ, ◌*◌, ◌%◌, ◌^◌, ◌<◌, ◌≤◌, true, false, T, sym, refl, ◌∙◌, subst, le-ltb, lt-ltb}
use lib.Ieee.{Float, nan, inf, fin, binary64, is_nan, nan_bits, of_bits}
use lib.Ieee.Bits.{nan_bits_above, nan_bits_is}

pub nan_is : (x : Float) → is_nan x ≡ true → x ≡ nan
unfolding is_nan
nan_is nan h = refl
nan_is (inf s) h = absurd (subst T (sym h) tt)
nan_is (fin s m e) h = absurd (subst T (sym h) tt)

-- by the test of a word
module _ (w : ℕ) where
  pub number : w % 2 ^ 63 ≤ 2047 * 2 ^ 52 → nan_bits binary64 w ≡ false
  number h = nan_bits_above binary64 w ∙ le-ltb (2047 * 2 ^ 52) (w % 2 ^ 63) h

  pub no_number_above : 2047 * 2 ^ 52 < w % 2 ^ 63 → of_bits binary64 w ≡ nan
  no_number_above h = nan_is (of_bits binary64 w) (sym (nan_bits_is binary64 w) ∙ nan_bits_above binary64 w ∙ lt-ltb (2047 * 2 ^ 52) (w % 2 ^ 63) h)
