-- How many numbers pass a test; and a list of numbers of which as many stand in it as it is long.
use Prim.Native.Nat.{ℕ, zero, suc, ◌+◌, ◌≤◌, ◌<◌}
use mathlib.Core.Path.{◌≡◌, refl, ◌∙◌}
use mathlib.Core.Bool.{Bool, true, false, not, ◌||◌}
use mathlib.Core.Logic.{dite}
use mathlib.Core.List.{List, [], ◌∷◌}
use native.Mathlib.Numerals.{add-one}
use native.Mathlib.Omega.{arith}
use native.Mathlib.Decide.{ℕ_discrete}
use borrow.Author.Tests.{eq-eqb, ne_eqb}
use lib.Dec.{eqb}
use lib.ListN.{length}
use Rattle.rules.specs.Addresses.{elem, twice}
use Rattle.rules.proofs.Tests.{split, neither}
use Rattle.settings_words.specs.Words.{flag_word}
use Rattle.judge.specs.Fits.{Below, tally}
use Rattle.judge.proofs.RowWords.{flag_low}
use Rattle.judge.proofs.Names.{both}

pub tally_on : (f : ℕ → Bool) (n : ℕ) → tally f (n + 1) ≡ tally f n + flag_word (f n)
unfolding tally
tally_on f n = rw add-one

word_less : (a b : Bool) → (a ≡ true → b ≡ true) → flag_word a ≤ flag_word b
word_less true b h = rw (h refl) (omega arith)
word_less false b h = omega arith

pub tally_low : (f : ℕ → Bool) (n : ℕ) → tally f n ≤ n
unfolding tally
tally_low f zero = omega arith
tally_low f (suc n) = omega (arith, tally_low f n, flag_low (f n))

pub tally_same : (f g : ℕ → Bool) (n : ℕ) → ((r : ℕ) → r < n → f r ≡ g r) → tally f n ≡ tally g n
unfolding tally
tally_same f g zero h = refl
tally_same f g (suc n) h = rw (h n (omega arith), tally_same f g n (λ r k. h r (omega arith)))

-- ---- a test that implies another

module _ (f g : ℕ → Bool) where
  tally_less : (n : ℕ) → ((r : ℕ) → r < n → f r ≡ true → g r ≡ true) → tally f n ≤ tally g n
  unfolding tally
  tally_less zero h = omega arith
  tally_less (suc n) h = omega (arith, tally_less n (λ r k. h r (omega arith)), word_less (f n) (g n) (h n (omega arith)))

  -- is the other, where as many pass it
  pub tally_all : (n : ℕ) → ((r : ℕ) → r < n → f r ≡ true → g r ≡ true) → tally f n ≡ tally g n → (r : ℕ) → r < n → f r ≡ g r
  unfolding tally
  tally_all zero h e r k = absurd (omega arith)
  tally_all (suc n) h e r k =
      let l = tally_less n (λ r k. h r (omega arith)) in
      let w = word_less (f n) (g n) (h n (omega arith)) in
      dite (ℕ_discrete r n)
      (λ (q : r ≡ n). rw q (both (f n) (g n) (h n (omega arith)) (λ t. word_set (f n) (rw t at (let z : flag_word (f n) ≡ flag_word (g n) = omega arith in z)))))
      (λ (q : r ≡ n → ⊥). tally_all n (λ r k. h r (omega arith)) (omega arith) r (omega arith))
    where
      word_set : (b : Bool) → flag_word b ≡ 1 → b ≡ true
      word_set true p = refl
      word_set false p = absurd (omega arith)

-- ---- the numbers of a list

one_more : (x n : ℕ) (f : ℕ → Bool) → x < n → tally (λ r. eqb x r || f r) n ≡ tally f n + flag_word (not (f x))
unfolding tally
one_more x zero f h = absurd (omega arith)
one_more x (suc n) f h =
    dite (ℕ_discrete x n)
    (λ (q : x ≡ n).
    let below : tally (λ r. eqb x r || f r) n ≡ tally f n = tally_same (λ r. eqb x r || f r) f n (λ r k. rw (ne_eqb x r (λ (p : x ≡ r). omega arith))) in
    rw (below, eq-eqb x n q, q) (either (f n) (tally f n)))
    (λ (q : x ≡ n → ⊥). rw (ne_eqb x n q, one_more x n f (omega arith)) (omega arith))
  where
    either : (b : Bool) (m : ℕ) → m + 1 ≡ m + flag_word b + flag_word (not b)
    either true m = omega arith
    either false m = omega arith

module _ (n : ℕ) where
  empty : (m : ℕ) → tally (λ r. false) m ≡ 0
  unfolding tally
  empty zero = refl
  empty (suc m) = omega (arith, empty m)

  tally_cons : (x : ℕ) (xs : List ℕ) → Below (x ∷ xs) (suc (length xs)) n → tally (λ r. elem r (x ∷ xs)) n ≡ tally (λ r. elem r xs) n + flag_word (not (elem x xs))
  unfolding elem
  tally_cons x xs h = one_more x n (λ r. elem r xs) (h 0 (omega arith))

  pub tally_few : (xs : List ℕ) → Below xs (length xs) n → tally (λ r. elem r xs) n ≤ length xs
  unfolding elem
  tally_few [] h = omega (arith, empty n)
  tally_few (x ∷ xs) h =
      omega (arith, tally_cons x xs h, tally_few xs (λ i k. h (suc i) (omega arith)), flag_low (not (elem x xs)))

  pub tally_full : (xs : List ℕ) → Below xs (length xs) n → twice xs ≡ false → tally (λ r. elem r xs) n ≡ length xs
  unfolding elem twice
  tally_full [] h t = empty n
  tally_full (x ∷ xs) h t =
      let k = neither (elem x xs) (twice xs) t in
      tally_cons x xs h ∙ rw (k.0, tally_full xs (λ i k. h (suc i) (omega arith)) k.1) (omega arith)

  pub tally_once : (xs : List ℕ) → Below xs (length xs) n → tally (λ r. elem r xs) n ≡ length xs → twice xs ≡ false
  unfolding elem twice
  tally_once [] h e = refl
  tally_once (x ∷ xs) h e =
      let c = tally_cons x xs h in
      let l = tally_few xs (λ i k. h (suc i) (omega arith)) in
      split (elem x xs)
      (λ p. absurd (let z : tally (λ r. elem r (x ∷ xs)) n ≡ tally (λ r. elem r xs) n + 0 = rw p at c in omega arith))
      (λ p. rw p (tally_once xs (λ i k. h (suc i) (omega arith)) (let z : tally (λ r. elem r (x ∷ xs)) n ≡ tally (λ r. elem r xs) n + 1 = rw p at c in omega arith)))
