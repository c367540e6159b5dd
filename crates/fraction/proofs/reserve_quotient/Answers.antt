-- The answer is the whole part of one quotient by one difference, as `reserve_quotient` is; the literal 1.0 is the nearest float to 1.
-- Assumes nothing.
use Rattle.std.proofs.Common.{◌≡◌, refl}
use lib.Ieee.{binary64, of_bits, round}
use Rattle.fraction.specs.Fraction.{decimal, reserve_quotient}
use Rattle.fraction.proofs.reserve_quotient.Goals as goal

one : of_bits binary64 0x3ff0_0000_0000_0000 ≡ decimal 1 1
unfolding of_bits round
one = refl

pub returns : goal.returns
unfolding reserve_quotient
returns c = rw (c.whole_part.ensures.whole, c.nearest_u64_to_f64.ensures, one)
