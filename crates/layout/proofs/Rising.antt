-- Lists of numbers: what holds of each, and a rising list after a change.
use Prim.Native.Nat.{ℕ, suc, ◌<◌}
use mathlib.Core.Bool.{true, false≢true}
use mathlib.Core.List.{List, [], ◌∷◌, map}
use mathlib.Core.Path.{◌≡◌, refl, ap, subst}
use native.Mathlib.Omega.{arith}
use lib.Dec.{eqb, leb}
use lib.ListN.{length}
use borrow.Author.Tests.{eqb-true, eq-eqb, leb-true, le-leb, lt-leb}
use Rattle.rules.specs.Addresses.{elem, strike, insert_rising}
pub use Rattle.rules.specs.Rising.{Above, Rising}
pub use Rattle.rules.proofs.Rising.{rising_unique, rising_once}
use Rattle.rules.proofs.Tests.{split, choose, or_true}

-- ---- what holds of each number of a list

abbrev pub Each : (ℕ → Type 0) → List ℕ → Type 0
Each P [] = Unit
Each P (a ∷ l) = P a × Each P l

pub each_of : (P : ℕ → Type 0) (l : List ℕ) → ((b : ℕ) → elem b l ≡ true → P b) → Each P l
unfolding elem
each_of P [] h = tt
each_of P (a ∷ l) h = (h a (rw (eq-eqb a a refl)), each_of P l (λ b m. h b (rw m (or_true (eqb a b)))))

pub each_then : (P Q : ℕ → Type 0) (f : ℕ → ℕ) (l : List ℕ) → ((b : ℕ) → P b → Q (f b)) → Each P l → Each Q (map f l)
each_then P Q f [] h k = tt
each_then P Q f (a ∷ l) h k = (h a k.0, each_then P Q f l h k.1)

-- ---- rising lists

pub above_least : (n : ℕ) (l : List ℕ) (b : ℕ) → Above n l → elem b l ≡ true → n < b
unfolding elem
above_least n [] b h e = absurd (false≢true e)
above_least n (a ∷ l) b h e =
    split (eqb a b)
    (λ p. subst (λ (x : ℕ). n < x) (eqb-true a b p) h.0)
    (λ p. above_least n l b h.1 (simp p at e))

above_strike : (n a : ℕ) (l : List ℕ) → Above n l → Above n (strike a l)
unfolding strike
above_strike n a [] h = tt
above_strike n a (x ∷ l) h =
    choose (λ (m : List ℕ). Above n m) (eqb x a) (λ p. above_strike n a l h.1) (λ p. (h.0, above_strike n a l h.1))

pub rising_strike : (a : ℕ) (l : List ℕ) → Rising l → Rising (strike a l)
unfolding strike
rising_strike a [] h = tt
rising_strike a (x ∷ l) h =
    choose (λ (m : List ℕ). Rising m) (eqb x a) (λ p. rising_strike a l h.1) (λ p. (above_strike x a l h.0, rising_strike a l h.1))

-- ---- an address put in

pub length_insert : (a : ℕ) (l : List ℕ) → length (insert_rising a l) ≡ suc (length l)
unfolding insert_rising
length_insert a [] = refl
length_insert a (x ∷ l) = choose (λ (m : List ℕ). length m ≡ suc (suc (length l))) (leb a x) (λ p. refl) (λ p. ap suc (length_insert a l))

-- the order in which two are put in makes no difference
pub insert_swap : (a b : ℕ) (l : List ℕ) → a < b → insert_rising a (insert_rising b l) ≡ insert_rising b (insert_rising a l)
unfolding insert_rising
insert_swap a b [] h = simp (le-leb a b (omega arith), lt-leb b a h)
insert_swap a b (x ∷ l) h =
    split (leb b x)
    (λ p. simp (p, le-leb a x (omega (arith, leb-true b x p)), le-leb a b (omega arith), lt-leb b a h))
    (λ p. split (leb a x)
    (λ q. simp (p, q, lt-leb b a h))
    (λ q. simp (p, q) (ap (λ (m : List ℕ). x ∷ m) (insert_swap a b l h))))
