-- The whole part of a float: by its value, and by the fields of its word. Definitions only.
use Rattle.std.specs.Prelude.{ℕ, ◌+◌, ◌-◌, ◌*◌, ◌/◌, ◌%◌, ◌^◌, Bool, cond, not, ◌&&◌, ◌==◌, nat_le, nat_lt, Float}
use Rattle.std.specs.Float.Ieee.{to_unsigned}

-- By its value: without its fraction. A negative number and what is no number give 0, and what is 2 ^ 64 or more gives 2 ^ 64 - 1.
abbrev pub whole_part : Float → ℕ
whole_part x = to_unsigned 64 x

-- ---- by its word, as IEEE 754 binary64 lays a number out

-- Bit 63.
abbrev pub sign : ℕ → Bool
sign w = nat_le (2 ^ 63) w

-- Bits 62 to 52: the power of two, with 1,023 added.
abbrev pub exponent : ℕ → ℕ
exponent w = w % 2 ^ 63 / 2 ^ 52

-- Bits 51 to 0: the binary digits behind the leading 1, which is not stored.
abbrev pub fraction : ℕ → ℕ
fraction w = w % 2 ^ 52

-- What is no number has the largest exponent, as infinity has, and a fraction.
abbrev pub no_number : ℕ → ℕ → Bool
no_number e f = e == 2047 && not (f == 0)

-- What is not negative. A number from 1 on, with exponent e and fraction f, is (1 + f / 2 ^ 52) * 2 ^ (e - 1023): its whole part is
-- 2 ^ 52 + f, moved e - 1023 places to the left and 52 to the right.
unfoldable pub whole_by_exponent : ℕ → ℕ → ℕ
whole_by_exponent e f =
    -- from 0 to below 1
    cond (nat_lt e 1023) 0
    -- from 1 to below 2 ^ 64
    (cond (nat_lt e 1087) ((2 ^ 52 + f) * 2 ^ (e - 1023) / 2 ^ 52)
    -- no number, or 2 ^ 64 and more
    (cond (no_number e f) 0 (2 ^ 64 - 1)))

-- What is negative gives 0.
unfoldable pub whole_by_fields : Bool → ℕ → ℕ → ℕ
whole_by_fields s e f = cond s 0 (whole_by_exponent e f)

abbrev pub whole_of_word : ℕ → ℕ
whole_of_word w = whole_by_fields (sign w) (exponent w) (fraction w)
