-- The function goes by the fields of the word as `whole_by_fields` does, which is the whole part of any float. Assumes nothing.
use Rattle.std.proofs.Common.{◌≡◌, ℕ, ◌+◌, ◌-◌, ◌*◌, ◌/◌, ◌^◌, ◌<◌, ◌≤◌, true, false, T, sym, ap, ◌∙◌, arith, le-ltb, lt-ltb, le-leb}
use lib.Ieee.{Float, binary64, fits, to_bits}
use borrow.Author.Tests.{lt-leb}
use Rattle.fraction.specs.Whole.{whole_part, exponent, fraction, no_number, whole_by_exponent, whole_by_fields, whole_of_word}
use Rattle.fraction.proofs.WholeByWord.{by_word, shifted}
use Rattle.fraction.proofs.whole.whole_part.Goals as goal

-- what goes by the word is the answer
answer : (x : Float) {w r : ℕ} → (w ≡ to_bits binary64 x) × T (fits binary64 x) → r ≡ whole_of_word w → (r ≡ whole_of_word (to_bits binary64 x)) × (r ≡ whole_part x)
answer x h e = let f = e ∙ ap whole_of_word h.0 in (f, f ∙ sym (by_word x h.1))

-- the five ways through the function
module _ (w : ℕ) where
  negative : 2 ^ 63 ≤ w → 0 ≡ whole_of_word w
  unfolding whole_by_fields
  negative h = rw (le-leb (2 ^ 63) w h)

  module _ (h : w < 2 ^ 63) where
    below_one : exponent w < 1023 → 0 ≡ whole_of_word w
    unfolding whole_by_fields whole_by_exponent
    below_one k = rw (lt-leb (2 ^ 63) w h, lt-ltb (exponent w) 1023 k)

    module _ (k : 1023 ≤ exponent w) where
      by_a_shift : exponent w < 1087 → (2 ^ 52 + fraction w) * 2 ^ 11 / 2 ^ (1086 - exponent w) ≡ whole_of_word w
      unfolding whole_by_fields whole_by_exponent
      by_a_shift l =
          rw (lt-leb (2 ^ 63) w h, le-ltb (exponent w) 1023 k, lt-ltb (exponent w) 1087 l)
          (shifted (2 ^ 52 + fraction w) 11 (1086 - exponent w) (exponent w - 1023) 52 (omega arith))

      module _ (l : 1087 ≤ exponent w) where
        none : no_number (exponent w) (fraction w) ≡ true → 0 ≡ whole_of_word w
        unfolding whole_by_fields whole_by_exponent
        none n = rw (lt-leb (2 ^ 63) w h, le-ltb (exponent w) 1023 k, le-ltb (exponent w) 1087 l, n)

        too_large : no_number (exponent w) (fraction w) ≡ false → 2 ^ 64 - 1 ≡ whole_of_word w
        unfolding whole_by_fields whole_by_exponent
        too_large n = rw (lt-leb (2 ^ 63) w h, le-ltb (exponent w) 1023 k, le-ltb (exponent w) 1087 l, n)

pub returns-then-w-ge-SIGN : goal.returns-then-w-ge-SIGN
returns-then-w-ge-SIGN c =
    let a = answer _ (c.word_of-w.ensures.value, c.word_of-w.ensures.fits) (negative _ c.if-w-ge-SIGN.true) in record { value = a.0; whole = a.1 }

pub returns-then-exponent-lt-OF_ONE : goal.returns-then-exponent-lt-OF_ONE
returns-then-exponent-lt-OF_ONE c =
    let a = answer _ (c.word_of-w.ensures.value, c.word_of-w.ensures.fits) (below_one _ c.if-w-ge-SIGN.false c.if-exponent-lt-OF_ONE.true) in record { value = a.0; whole = a.1 }

pub returns-then-exponent-lt-TOO_LARGE : goal.returns-then-exponent-lt-TOO_LARGE
returns-then-exponent-lt-TOO_LARGE c =
    let a = answer _ (c.word_of-w.ensures.value, c.word_of-w.ensures.fits) (by_a_shift _ c.if-w-ge-SIGN.false c.if-exponent-lt-OF_ONE.false c.if-exponent-lt-TOO_LARGE.true) in record { value = a.0; whole = a.1 }

pub returns-then-exponent-fraction : goal.returns-then-exponent-fraction
returns-then-exponent-fraction c =
    let a = answer _ (c.word_of-w.ensures.value, c.word_of-w.ensures.fits) (none _ c.if-w-ge-SIGN.false c.if-exponent-lt-OF_ONE.false c.if-exponent-lt-TOO_LARGE.false c.if-exponent-fraction.true) in record { value = a.0; whole = a.1 }

pub returns : goal.returns
returns c =
    let a = answer _ (c.word_of-w.ensures.value, c.word_of-w.ensures.fits) (too_large _ c.if-w-ge-SIGN.false c.if-exponent-lt-OF_ONE.false c.if-exponent-lt-TOO_LARGE.false c.if-exponent-fraction.false) in record { value = a.0; whole = a.1 }
