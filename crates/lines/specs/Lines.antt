-- A line of input: `insert ADDRESS SIZE`, with one space between words and decimal numbers below 2^64.
use Rattle.std.specs.Prelude.{ℕ, ◌+◌, ◌-◌, ◌*◌, ◌^◌, ◌&&◌, cond, List, [], ◌∷◌, eqb, ltb, length, get_or, drop, Option, Some, None}
use Rattle.std.specs.Char.{is_ascii_digit}
use Rattle.std.specs.List.{starts_with, position_or_len, take_while}
use Rattle.lines.specs.declared.line.Insert.{Insert}
use Rattle.lines.specs.declared.number.Number.{Number}

-- ---- numbers

-- The digits at the head of bytes.
abbrev pub digits : List ℕ → List ℕ
digits bs = take_while is_ascii_digit bs

-- The decimal number of digits, after those that count v.
unfoldable pub value_from : ℕ → List ℕ → ℕ
value_from v [] = v
value_from v (b ∷ bs) = value_from (v * 10 + (b - 48)) bs

-- A number, and the place after it.
abbrev pub number : ℕ → ℕ → Number
number value next = record { value = value; next = next }

-- At least one digit, leading zeros allowed, and below 2^64.
abbrev pub number_of : ℕ → List ℕ → Option Number
number_of at ds = cond (ltb 0 (length ds) && ltb (value_from 0 ds) (2 ^ 64)) (Some (number (value_from 0 ds) (at + length ds))) None

-- The number that starts at a place, and the place after it.
unfoldable pub number_at : List ℕ → ℕ → Option Number
number_at s at = number_of at (digits (drop at s))

-- ---- lines

-- "insert "
abbrev pub word : List ℕ
word = 105 ∷ 110 ∷ 115 ∷ 101 ∷ 114 ∷ 116 ∷ 32 ∷ []

-- An insert of so many bytes at an address.
abbrev pub insert : ℕ → ℕ → Insert
insert address size = record { address = address; size = size }

-- The size, after which the line ends.
abbrev pub size_then_end : List ℕ → ℕ → Option Number → Option Insert
size_then_end s a None = None
size_then_end s a (Some n) = cond (eqb n.next (length s)) (Some (insert a n.value)) None

-- The address, a space and the size.
abbrev pub address_then_size : List ℕ → Option Number → Option Insert
address_then_size s None = None
address_then_size s (Some n) = cond (eqb (get_or s n.next 0) 32) (size_then_end s n.value (number_at s (n.next + 1))) None

-- Without its newline.
unfoldable pub line_of : List ℕ → Option Insert
line_of s = cond (starts_with eqb s word) (address_then_size s (number_at s 7)) None

-- The bytes before the first newline.
abbrev pub length_of_line : List ℕ → ℕ
length_of_line bs = position_or_len (λ b. eqb b 10) bs
