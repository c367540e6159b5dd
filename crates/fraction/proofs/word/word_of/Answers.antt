-- What is no number has the word that `to_bits` gives it. Assumes nothing.
use Rattle.std.proofs.Common.{sym, ◌∙◌}
use lib.Ieee.{to_bits}
use Rattle.fraction.proofs.NoNumber.{nan_is}
use Rattle.fraction.proofs.word.word_of.Goals as goal

pub returns-then-is_nan-clause-value : goal.returns-then-is_nan-clause-value
unfolding to_bits
returns-then-is_nan-clause-value c = rw (nan_is c.args.x (sym c.is_nan.ensures.value ∙ c.if-is_nan.true))
