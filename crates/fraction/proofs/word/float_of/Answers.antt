-- `f64::from_bits` is asked for the word of a number only; every other word stands for no number, as 0.0 / 0.0 is. Assumes nothing.
use lib.Ieee.{of_bits, div}
use Rattle.fraction.proofs.NoNumber.{number, no_number_above}
use Rattle.fraction.proofs.word.float_of.Goals as goal

pub float_from_bits-result : goal.float_from_bits-result
float_from_bits-result c = rw (number c.args.w c.if-w-le-INFINITY.true) tt

pub returns : goal.returns
unfolding of_bits div
returns c = rw (no_number_above c.args.w c.if-w-le-INFINITY.false)
