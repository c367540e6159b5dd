-- Numbers and meanings: a list of two, a list before others, and the float 0.
use Prim.Native.Nat.{ℕ}
use mathlib.Core.List.{List, [], ◌∷◌, ◌++◌}
use Rattle.std.specs.Prelude.{None}
use mathlib.Core.Path.{◌≡◌, refl}
use lib.Dec.{eqb}
use lib.Ieee.{binary64, of_bits, round}
use borrow.Author.Tests.{ne_eqb}
use Rattle.fraction.specs.Fraction.{decimal}
use Rattle.rules.proofs.Tests.{split}
use Rattle.numbers.specs.Meanings.{meaning}

-- a number that the others have not
pub meaning_before : {A : Type 0} (l m : List (ℕ × A)) (n : ℕ) → meaning m n ≡ None → meaning (l ++ m) n ≡ meaning l n
unfolding meaning
meaning_before [] m n h = h
meaning_before (x ∷ l) m n h = split (eqb n x.0) (λ p. rw p) (λ p. rw p (meaning_before l m n h))

-- neither of two
pub neither : {A : Type 0} (a b : ℕ) (x y : A) (n : ℕ) → (n ≡ a → ⊥) → (n ≡ b → ⊥) → meaning ((a, x) ∷ (b, y) ∷ []) n ≡ None
unfolding meaning
neither a b x y n p q = rw (ne_eqb n a p, ne_eqb n b q)

-- the bits of the literal 0.0
pub zero_bits : of_bits binary64 0 ≡ decimal 0 1
unfolding of_bits round
zero_bits = refl
