-- Worked cases, shown by computation: tables, and a statement for each that its cases hold. Assumes nothing.
use Rattle.std.specs.Prelude.{◌≡◌, ℕ, ◌+◌, ◌-◌, ◌*◌, ◌^◌, Bool, true, false, cond, ◌&&◌, List, [], ◌∷◌, pos, ◌==◌, refl, Float}
use Rattle.std.specs.Bool.{beq}
use Rattle.std.specs.Float.{nan, inf, fin, binary64}
use Rattle.std.specs.Float.Ieee.{mul, div, sub, lt, round, of_int, of_bits, to_unsigned}
use Rattle.fraction.specs.Whole.{whole_part, sign, exponent, fraction, whole_by_exponent, whole_by_fields}
use Rattle.fraction.specs.Fraction.{decimal, size_product, hit_rate, reserve_quotient, exceeds_share}

-- What is worked out, and last what it gives.
pub data Case : Type 0 where
  product : ℕ → Float → ℕ → Case
  rate_below : ℕ → ℕ → Float → Bool → Case
  quotient : ℕ → Float → ℕ → Case
  exceeds : ℕ → Float → ℕ → Bool → Case
  whole : Float → ℕ → Case

unfoldable pub holds : Case → Bool
unfolding size_product hit_rate reserve_quotient exceeds_share
holds (product size fraction n) = size_product size fraction == n
holds (rate_below hits accesses lower b) = beq (lt (hit_rate hits accesses) lower) b
holds (quotient held reserve n) = reserve_quotient held reserve == n
holds (exceeds x threshold maximum b) = beq (exceeds_share x threshold maximum) b
holds (whole x n) = whole_part x == n

-- whether every case of a table holds
unfoldable pub every : {A : Type 0} → (A → Bool) → List A → Bool
every test [] = true
every test (c ∷ cs) = test c && every test cs

pub cases : List Case
cases =
    -- P5, and the minimum clean bytes by default
    product 4096 (decimal 15 10) 6144
    ∷ product 4096 (decimal 11 10) 4505
    ∷ product 2097152 (decimal 3 10) 629145
    -- P6
    ∷ rate_below 90 100 (decimal 9 10) false
    ∷ rate_below 89 100 (decimal 9 10) true
    -- P7
    ∷ quotient 3000 (decimal 25 100) 4000
    ∷ quotient 3072 (decimal 25 100) 4096
    -- P8
    ∷ exceeds 1024 (decimal 25 100) 4096 false
    ∷ exceeds 1025 (decimal 25 100) 4096 true
    -- no number, infinity, negative numbers
    ∷ whole nan 0
    ∷ whole (inf false) (2 ^ 64 - 1)
    ∷ whole (inf true) 0
    ∷ whole (fin true 1 (pos 0)) 0
    ∷ whole (fin true 0 (pos 0)) 0
    -- the smallest number above 0, the largest below 1, and 1
    ∷ whole (of_bits binary64 1) 0
    ∷ whole (of_bits binary64 0x3fef_ffff_ffff_ffff) 0
    ∷ whole (decimal 1 1) 1
    -- 2 ^ 63, the largest below 2 ^ 64, and 2 ^ 64
    ∷ whole (decimal (2 ^ 63) 1) (2 ^ 63)
    ∷ whole (of_bits binary64 0x43ef_ffff_ffff_ffff) (2 ^ 64 - 2048)
    ∷ whole (decimal (2 ^ 64) 1) (2 ^ 64 - 1)
    -- a reserve of 1: 0 / 0 is no number, 1 / 0 is infinity
    ∷ quotient 0 (decimal 1 1) 0
    ∷ quotient 1 (decimal 1 1) (2 ^ 64 - 1)
    ∷ []

pub cases_hold : every holds cases ≡ true
unfolding cases every holds mul div sub lt round of_int of_bits to_unsigned
cases_hold = refl

-- ---- by sign, exponent and fraction

-- The three fields in their places.
abbrev word_of : Bool → ℕ → ℕ → ℕ
word_of s e f = cond s (2 ^ 63) 0 + e * 2 ^ 52 + f

-- Sign, exponent, fraction, and the whole part of the float that has them.
pub data Fields : Type 0 where
  of : Bool → ℕ → ℕ → ℕ → Fields

-- The word has these fields, and the whole part is the one named, by the fields and by the value.
unfoldable pub shown : Fields → Bool
unfolding whole_by_fields
shown (of s e f n) =
    let w = word_of s e f in
    beq (sign w) s && exponent w == e && fraction w == f && whole_by_fields s e f == n && whole_part (of_bits binary64 w) == n

pub by_fields : List Fields
by_fields =
    -- 0.0, the smallest number above it, the largest below 1
    of false 0 0 0
    ∷ of false 0 1 0
    ∷ of false 1022 (2 ^ 52 - 1) 0
    -- 1.0, the largest below 2, 6.5, 4505.6
    ∷ of false 1023 0 1
    ∷ of false 1023 (2 ^ 52 - 1) 1
    ∷ of false 1025 0xa_0000_0000_0000 6
    ∷ of false 1035 0x1_9999_9999_999a 4505
    -- 2 ^ 51 + 0.5, 2 ^ 52 + 1, 2 ^ 53
    ∷ of false 1074 1 (2 ^ 51)
    ∷ of false 1075 1 (2 ^ 52 + 1)
    ∷ of false 1076 0 (2 ^ 53)
    -- 2 ^ 63, the largest below 2 ^ 64, 2 ^ 64, the largest of all, infinity
    ∷ of false 1086 0 (2 ^ 63)
    ∷ of false 1086 (2 ^ 52 - 1) (2 ^ 64 - 2048)
    ∷ of false 1087 0 (2 ^ 64 - 1)
    ∷ of false 2046 (2 ^ 52 - 1) (2 ^ 64 - 1)
    ∷ of false 2047 0 (2 ^ 64 - 1)
    -- -0.0, -1.5, -2 ^ 64, -infinity
    ∷ of true 0 0 0
    ∷ of true 1023 (2 ^ 51) 0
    ∷ of true 1087 0 0
    ∷ of true 2047 0 0
    -- no number
    ∷ of false 2047 (2 ^ 51) 0
    ∷ of false 2047 1 0
    ∷ of true 2047 (2 ^ 52 - 1) 0
    ∷ []

pub fields_hold : every shown by_fields ≡ true
unfolding by_fields every shown whole_by_exponent whole_by_fields of_bits to_unsigned
fields_hold = refl
