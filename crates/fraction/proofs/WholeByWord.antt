-- The whole part of a float by its word. A word has the fields e and f of exponent and fraction, and with the sign off stands for
-- (1 + f / 2 ^ 52) * 2 ^ (e - 1023): below 1 where e is below 1023, and 2 ^ 64 or more from e = 1087 on. Assumes nothing.
use Rattle.std.proofs.Common.{◌≡◌, ℕ, zero, suc, ◌+◌, ◌-◌, ◌*◌, ◌/◌, ◌%◌, ◌^◌, ◌<◌, ◌≤◌, min, Bool, true, false, cond, not, ◌&&◌, T, eqb, ltb, ◌⊎◌, sym, refl, ap, ◌∙◌, subst, inl, inr, le_trans, le_of_eq, lt_of_lt_of_le, le-add_right, mul-le-mul_right, mod-lt, mul_assoc, le-div_iff_mul-le, arith, lit≤, pow_pos, pow_mono, pow-add, shl_lt, shr_lt, ltb-false, ltb-true, le-ltb, lt-ltb, eqb-true}
use native.Mathlib.Nat.{div-eq_of_lt}
use lib.Ieee.{Float, nan, inf, fin, binary64, up, down, odd, fits, nan_bits, of_fields, of_bits, to_bits, to_unsigned}
use lib.Ieee.Fits.{down_pos}
use lib.Ieee.Bits.{of_bits-to_bits, nan_bits_above}
use lib.Ieee.Exact.{HasValue, odd_sign}
use lib.Ieee.Nearest.{div_same}
use Rattle.fraction.specs.Whole.{whole_part, sign, exponent, fraction, no_number, whole_by_exponent, whole_by_fields, whole_of_word}
use Rattle.fraction.proofs.NoNumber.{number, no_number_above}

-- which of two numbers is less
which : (a b : ℕ) → (a < b) ⊎ (b ≤ a)
which a b = go (ltb a b) refl
  where
    go : (t : Bool) → ltb a b ≡ t → (a < b) ⊎ (b ≤ a)
    go true h = inl (ltb-true a b h)
    go false h = inr (ltb-false a b h)

-- q * 2 ^ a / 2 ^ b goes by a - b alone
pub shifted : (q a b c d : ℕ) → a + d ≡ c + b → q * 2 ^ a / 2 ^ b ≡ q * 2 ^ c / 2 ^ d
shifted q a b c d h = div_same (q * 2 ^ a) (2 ^ b) (q * 2 ^ c) (2 ^ d) (pow_pos b) (pow_pos d) (joined a d ∙ ap (λ (k : ℕ). q * 2 ^ k) h ∙ sym (joined c b))
  where
    joined : (i j : ℕ) → q * 2 ^ i * 2 ^ j ≡ q * 2 ^ (i + j)
    joined i j = mul_assoc q (2 ^ i) (2 ^ j) ∙ ap (λ (k : ℕ). q * k) (sym (pow-add 2 i j))

-- the whole part of a finite value of the size a / c
of_value : (x : Float) (s : Bool) (a c : ℕ) → 0 < c → HasValue x s a c → whole_part x ≡ cond s 0 (min (a / c) (2 ^ 64 - 1))
unfolding to_unsigned
of_value nan s a c p h = absurd h
of_value (inf t) s a c p h = absurd h
of_value (fin t m e) s a c p h =
    ap (λ (b : Bool). cond b 0 (min (m * up e / down e) (2 ^ 64 - 1))) h.0
    ∙ ap (λ (k : ℕ). cond s 0 (min k (2 ^ 64 - 1))) (div_same (m * up e) (down e) a c (down_pos e) p h.1)

-- with the exponent's field suc j, in units of the smallest number
module _ (j f : ℕ) (h : f < 2 ^ 52) where
  digits : ℕ
  digits = 2 ^ 52 + f

  digits_lt : digits < 2 ^ 53
  unfolding digits
  digits_lt = omega arith

  below_one : suc j < 1023 → digits * 2 ^ j / 2 ^ 1074 ≡ 0
  below_one k =
      let g : 53 + j ≤ 1074 = omega arith in
      div-eq_of_lt (lt_of_lt_of_le (shl_lt 53 j digits_lt) (pow_mono g))

  in_a_word : 1023 ≤ suc j → suc j < 1087 → digits * 2 ^ (suc j - 1023) / 2 ^ 52 < 2 ^ 64
  in_a_word k l =
      let g : 53 + (suc j - 1023) ≤ 116 = omega arith in
      shr_lt 64 52 (lt_of_lt_of_le (shl_lt 53 (suc j - 1023) digits_lt) (pow_mono g))

  too_large : 1087 ≤ suc j → 2 ^ 64 ≤ digits * 2 ^ j / 2 ^ 1074
  unfolding digits
  too_large k =
      let g : 1138 ≤ 52 + j = omega arith in
      let l : 2 ^ 1138 ≤ digits * 2 ^ j = le_trans (pow_mono g) (le_trans (le_of_eq (pow-add 2 52 j)) (mul-le-mul_right (2 ^ j) (le-add_right (2 ^ 52) f))) in
      (le-div_iff_mul-le (pow_pos 1074)).1 l

  capped : (n : ℕ) → 2 ^ 64 ≤ n → min n (2 ^ 64 - 1) ≡ 2 ^ 64 - 1
  capped n l = omega arith

  of_exponent : no_number (suc j) f ≡ false → min (digits * 2 ^ j / 2 ^ 1074) (2 ^ 64 - 1) ≡ whole_by_exponent (suc j) f
  unfolding whole_by_exponent digits
  of_exponent some = elim (which (suc j) 1023) [
    | inl k ↦ rw (below_one k, lt-ltb (suc j) 1023 k) (omega arith)
    | inr k ↦ elim (which (suc j) 1087) [
      | inl l ↦ rw (le-ltb (suc j) 1023 k, lt-ltb (suc j) 1087 l, shifted digits j 1074 (suc j - 1023) 52 (omega arith)) (omega (arith, in_a_word k l))
      | inr l ↦ rw (le-ltb (suc j) 1023 k, le-ltb (suc j) 1087 l, some) (capped (digits * 2 ^ j / 2 ^ 1074) (too_large l))
    ]
  ]

-- a number by its sign and fields
by_fields_same : (s : Bool) (e f : ℕ) → f < 2 ^ 52 → no_number e f ≡ false → whole_part (of_fields binary64 s e f) ≡ whole_by_fields s e f
unfolding of_fields whole_by_fields whole_by_exponent to_unsigned digits
by_fields_same s zero f h n =
    of_value (odd 53 s f 0 1074) s (f * 2 ^ 0) (2 ^ 1074) (pow_pos 1074) (odd_sign 53 s f 0 1074) ∙ ap (λ (k : ℕ). cond s 0 k) tiny
  where
    tiny : min (f * 2 ^ 0 / 2 ^ 1074) (2 ^ 64 - 1) ≡ 0
    tiny =
        let g : 52 + 0 ≤ 1074 = lit≤ tt in
        rw (div-eq_of_lt (lt_of_lt_of_le (shl_lt 52 0 h) (pow_mono g))) (omega arith)
by_fields_same s (suc j) f h n = go (eqb (suc j) 2047) refl
  where
    v : Float
    v = odd 53 s (2 ^ 52 + f) j 1074

    infinite : (b : Bool) → eqb f 0 ≡ b → suc j ≡ 2047 → whole_part (cond b (inf s) nan) ≡ whole_by_fields s (suc j) f
    infinite true z k = rw (k, z)
    infinite false z k = absurd (subst T (rw (k, z) at n) tt)

    go : (b : Bool) → eqb (suc j) 2047 ≡ b → whole_part (cond b (cond (eqb f 0) (inf s) nan) v) ≡ whole_by_fields s (suc j) f
    go true k = infinite (eqb f 0) refl (eqb-true (suc j) 2047 k)
    go false k = of_value v s ((2 ^ 52 + f) * 2 ^ j) (2 ^ 1074) (pow_pos 1074) (odd_sign 53 s (2 ^ 52 + f) j 1074) ∙ ap (λ (k : ℕ). cond s 0 k) (of_exponent j f h n)

-- what is no number
none_by_fields : (s : Bool) (e f : ℕ) → no_number e f ≡ true → whole_by_fields s e f ≡ 0
unfolding whole_by_fields whole_by_exponent
none_by_fields s e f n =
    let k = eqb-true e 2047 (first (eqb e 2047) (not (eqb f 0)) n) in
    rw (le-ltb e 1023 (omega arith), le-ltb e 1087 (omega arith), n) (either s)
  where
    first : (a b : Bool) → (a && b) ≡ true → a ≡ true
    first true b h = refl
    first false b h = h

    either : (s : Bool) → cond {A = ℕ} s 0 0 ≡ 0
    either true = refl
    either false = refl

-- the float of any word
pub of_word : (w : ℕ) → whole_part (of_bits binary64 w) ≡ whole_of_word w
unfolding of_bits to_unsigned nan_bits
of_word w = elim (which (2047 * 2 ^ 52) (w % 2 ^ 63)) [
  | inl n ↦ rw (no_number_above w n) (sym (none_by_fields (sign w) (exponent w) (fraction w) (nan_bits_above binary64 w ∙ lt-ltb (2047 * 2 ^ 52) (w % 2 ^ 63) n)))
  | inr n ↦ by_fields_same (sign w) (exponent w) (fraction w) (mod-lt w (pow_pos 52)) (number w n)
]

-- every float of a program, by its word
pub by_word : (x : Float) → T (fits binary64 x) → whole_part x ≡ whole_of_word (to_bits binary64 x)
by_word x h = rw (of_bits-to_bits binary64 x h) at (of_word (to_bits binary64 x))
