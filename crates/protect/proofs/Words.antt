-- The words lent have room for a load beside the orders that can come.
use Prim.Native.Nat.{ℕ, ◌+◌, ◌*◌, ◌≤◌}
use mathlib.Core.Bool.{false}
use mathlib.Core.Path.{◌≡◌}
use native.Mathlib.Omega.{arith}
use lib.ListN.{length}
use borrow.Author.Tests.{ltb-false}
use Rattle.rules.proofs.Moved.{left, left_most}
use Rattle.rules.specs.Cache.{Cache}
use Rattle.rules.specs.Refusals.{too_few_words}

-- every order that can come, and one more
pub words_enough : (c : Cache) (lent : ℕ) → too_few_words c lent ≡ false → (left c + 1) * 3 ≤ lent
words_enough c lent t = omega (arith, left_most c.rows, ltb-false lent (3 * (2 * length c.rows + 1)) t)
