-- The search for an address among the rising ones.
use Prim.Native.Nat.{ℕ, zero, suc, ◌+◌, ◌<◌, ◌≤◌}
use mathlib.Core.Bool.{true, false≢true}
use mathlib.Core.List.{List, [], ◌∷◌}
use mathlib.Core.Logic.{⊎_elim}
use mathlib.Core.Path.{◌≡◌, ap}
use native.Mathlib.Nat.{le_of_suc-le-suc, eq-or-lt_of_le}
use native.Mathlib.Omega.{arith}
use lib.Dec.{eqb}
use lib.ListN.{length, get_or}
use borrow.Author.Tests.{eqb-true, lt-ltb, le-ltb}
use Rattle.rules.specs.Addresses.{elem}
use Rattle.rules.specs.Rising.{Above, Rising}
use Rattle.rules.proofs.Tests.{split}
use Rattle.layout.specs.Places.{place_of}
use Rattle.layout.proofs.Rising.{above_least}
use Rattle.table.specs.Asked.{PlaceIn}

above_at : (a : ℕ) (l : List ℕ) (j : ℕ) → Above a l → j < length l → a < get_or l j 0
above_at a [] j h k = absurd (omega arith)
above_at a (b ∷ l) zero h k = h.0
above_at a (b ∷ l) (suc j) h k = above_at a l j h.1 (le_of_suc-le-suc k)

rises : (l : List ℕ) (i j : ℕ) → Rising l → i < j → j < length l → get_or l i 0 < get_or l j 0
rises [] i j h k m = absurd (omega arith)
rises (a ∷ l) i zero h k m = absurd (omega arith)
rises (a ∷ l) zero (suc j) h k m = above_at a l j h.0 (le_of_suc-le-suc m)
rises (a ∷ l) (suc i) (suc j) h k m = rises l i j h.1 (le_of_suc-le-suc k) (le_of_suc-le-suc m)

-- what the search keeps: what is before `low` is below a, and what is from `high` on is not
pub record Between (l : List ℕ) (a low high : ℕ) : Type 0 where
  pub order : low ≤ high
  pub within : high ≤ length l
  pub under : (i : ℕ) → i < low → get_or l i 0 < a
  pub over : (i : ℕ) → high ≤ i → i < length l → a ≤ get_or l i 0

pub between_start : (l : List ℕ) (a n : ℕ) → n ≡ length l → Between l a 0 n
between_start l a n e = record { order = omega arith; within = omega arith; under = λ i h. absurd (omega arith); over = λ i h k. absurd (omega arith) }

module _ {l : List ℕ} {a low high : ℕ} (s : Rising l) (k : Between l a low high) (mid : ℕ) (g : low ≤ mid) (h : mid < high) where
  pub between_up : get_or l mid 0 < a → Between l a (mid + 1) high
  between_up t = record {
    order = omega arith;
    within = k.within;
    under = λ i b. ⊎_elim (λ (e : i ≡ mid). rw e t) (λ (m : i < mid). let w = k.within in omega (arith, rises l i mid s m (omega arith))) (eq-or-lt_of_le {n = i} {m = mid} (omega arith));
    over = k.over;
  }

  pub between_down : a ≤ get_or l mid 0 → Between l a low mid
  between_down t = record {
    order = g;
    within = let w = k.within in omega arith;
    under = k.under;
    over = λ i b c. ⊎_elim (λ (e : mid ≡ i). rw (← e) t) (λ (m : mid < i). omega (arith, rises l mid i s m c)) (eq-or-lt_of_le b);
  }

place_is : (l : List ℕ) (a r : ℕ) → r ≤ length l → ((i : ℕ) → i < r → get_or l i 0 < a) → ((i : ℕ) → r ≤ i → i < length l → a ≤ get_or l i 0) → r ≡ place_of a l
unfolding place_of
place_is [] a r h u o = omega arith
place_is (b ∷ l) a zero h u o = rw (le-ltb b a (o 0 (omega arith) (omega arith)))
place_is (b ∷ l) a (suc r) h u o =
    rw (lt-ltb b a (u 0 (omega arith)))
    (ap suc (place_is l a r (le_of_suc-le-suc h) (λ i k. u (suc i) (omega arith)) (λ i k m. o (suc i) (omega arith) (omega arith))))

pub between_end : {l : List ℕ} {a low high : ℕ} → Between l a low high → high ≤ low → low ≡ place_of a l
between_end {l} {a} {low} k h = place_is l a low (let w = k.within in let o = k.order in omega arith) k.under (λ i b c. k.over i (omega arith) c)

-- a place that has the address is its place
pub place_at : (l : List ℕ) (a i : ℕ) → Rising l → i < length l → get_or l i 0 ≡ a → i ≡ place_of a l
place_at l a i s h e =
    place_is l a i (omega arith) (λ j k. omega (arith, rises l j i s k h))
    (λ j k m. ⊎_elim (λ (q : i ≡ j). omega (arith, ap (λ (n : ℕ). get_or l n 0) q)) (λ (q : i < j). omega (arith, rises l i j s q m)) (eq-or-lt_of_le k))

-- an address that is there stands at its place
pub place_elem : (a : ℕ) (l : List ℕ) → Rising l → elem a l ≡ true → PlaceIn l a (place_of a l)
unfolding elem place_of
place_elem a [] h e = absurd (false≢true e)
place_elem a (b ∷ l) h e =
    split (eqb b a)
    (λ p. let q = eqb-true b a p in let z = le-ltb b a (omega arith) in record { low = rw z (omega arith); same = rw z q })
    (λ p. let m = simp p at e in
    let k = place_elem a l h.1 m in
    let z = lt-ltb b a (above_least b l a h.0 m) in
    record { low = rw z (let i = k.low in omega arith); same = rw z k.same })
