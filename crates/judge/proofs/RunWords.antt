-- A run of row numbers: its words and the numbers read from them, both ways.
use Rattle.std.specs.Prelude.{if◌then◌else◌}
use Prim.Native.Nat.{ℕ, zero, suc, ◌+◌, ◌-◌, ◌≤◌, ◌<◌}
use mathlib.Core.Path.{◌≡◌, refl, sym, ap, ap₂, ◌∙◌}
use mathlib.Core.Bool.{false}
use mathlib.Core.List.{List, [], ◌∷◌, ◌++◌}
use native.Mathlib.Omega.{arith}
use native.Mathlib.Nat.{le_of_suc-le-suc}
use borrow.Author.Tests.{eq-eqb, ne_eqb}
use lib.Dec.{eqb}
use lib.ListN.{length, get_or, take, drop, replicate, get_or-replicate, length-drop, take-append-drop}
use lib.Seq.{get_or-drop, get_or-take, get_or-append-add, take-append_seam, length-take-le}
use Rattle.rules.specs.Addresses.{twice}
use Rattle.rules.specs.Limits.{most_rows}
use Rattle.rules.proofs.Tests.{choose}
use Rattle.layout.specs.Layout.{ones}
use Rattle.layout.specs.Picture.{run, run_of}
use Rattle.layout.proofs.Cuts.{get_d_run}
use Rattle.layout.proofs.Seams.{length_run}
use Rattle.judge.specs.Fits.{Below, Named, RunFits, numbers}

-- ---- from a list to words

module _ (n : ℕ) (l : List ℕ) (few : length l ≤ n) where
  pub run_take : take (length l) (run n l) ≡ l
  unfolding run
  run_take = take-append_seam l _

  pub run_ones : (i : ℕ) → length l ≤ i → i < n → get_or (run n l) i 0 ≡ ones
  unfolding run
  run_ones i h k =
      let e : i ≡ length l + (i - length l) = omega arith in
      rw e (get_or-append-add l _ (i - length l) 0 ∙ get_or-replicate (n - length l) (i - length l) ones 0 (omega arith))

-- ---- from words to a list

pub length_run_of : (n : ℕ) (ws : List ℕ) → length (run_of n ws) ≤ n
unfolding run_of
length_run_of zero ws = omega arith
length_run_of (suc n) [] = omega arith
length_run_of (suc n) (w ∷ ws) =
    choose (λ (l : List ℕ). length l ≤ suc n) (eqb w ones) (λ p. omega arith) (λ p. omega (arith, length_run_of n ws))

-- where the words before k are not all ones, and those from k on are, the first k are read
pub run_of_take : (ws : List ℕ) (k : ℕ) → k ≤ length ws → ((i : ℕ) → i < k → get_or ws i 0 ≡ ones → ⊥) → ((i : ℕ) → k ≤ i → i < length ws → get_or ws i 0 ≡ ones)
    → run_of (length ws) ws ≡ take k ws
unfolding run_of
run_of_take [] zero h f g = refl
run_of_take [] (suc k) h f g = absurd (omega arith)
run_of_take (w ∷ ws) zero h f g = rw (eq-eqb w ones (g 0 (omega arith) (omega arith)))
run_of_take (w ∷ ws) (suc k) h f g =
    rw (ne_eqb w ones (f 0 (omega arith)), run_of_take ws k (le_of_suc-le-suc h) (λ i a. f (suc i) (omega arith)) (λ i a b. g (suc i) (omega arith) (omega arith)))

run_of_front : (n : ℕ) (ws : List ℕ) → run_of n (take n ws) ≡ run_of n ws
unfolding run_of
run_of_front zero ws = refl
run_of_front (suc n) [] = refl
run_of_front (suc n) (w ∷ ws) = ap (λ (l : List ℕ). if eqb w ones then [] else w ∷ l) (run_of_front n ws)

-- the numbers of a part of n words
pub numbers_front : (n : ℕ) (ws : List ℕ) → n ≤ length ws → numbers (take n ws) ≡ run_of n ws
numbers_front n ws h = rw (length-take-le n ws h) (run_of_front n ws)

all_ones : (xs : List ℕ) → ((i : ℕ) → i < length xs → get_or xs i 0 ≡ ones) → xs ≡ replicate (length xs) ones
all_ones [] f = refl
all_ones (x ∷ xs) f = λ j. f 0 (omega arith) j ∷ all_ones xs (λ i h. f (suc i) (omega arith)) j

run_forth : (ws : List ℕ) (k : ℕ) → k ≤ length ws → ((i : ℕ) → k ≤ i → i < length ws → get_or ws i 0 ≡ ones) → ws ≡ run (length ws) (take k ws)
unfolding run
run_forth ws k h f =
    let d : length (drop k ws) ≡ length ws - length (take k ws) = length-drop k ws ∙ omega (arith, length-take-le k ws h) in
    sym (take-append-drop k ws)
    ∙ ap (λ (t : List ℕ). take k ws ++ t)
    (all_ones (drop k ws) (λ i b. get_or-drop k ws i 0 ∙ f (k + i) (omega arith) (omega (arith, length-drop k ws)))
    ∙ ap (λ (m : ℕ). replicate m ones) d)

-- ---- a list's own words

module _ (n k : ℕ) (l : List ℕ) (few : length l ≤ n) (most : k ≤ most_rows) (below : (i : ℕ) → i < length l → get_or l i 0 < k) where
  pub own_numbers : numbers (run n l) ≡ l
  own_numbers =
      let e = length_run n l few in
      run_of_take (run n l) (length l) (omega arith) (λ i h q. omega (arith, get_d_run n i l h, below i h)) (λ i a b. run_ones n l few i a (omega arith))
      ∙ run_take n l few

  pub own_run : twice l ≡ false → RunFits (run n l) k
  own_run once = record {
    words = ap₂ (λ (m : ℕ) (x : List ℕ). run m x) (sym (length_run n l few)) (sym own_numbers);
    below = rw own_numbers below;
    once = rw own_numbers once;
  }

-- ---- what the walks over a run find

module _ {ws named : List ℕ} {n : ℕ} (few : n ≤ most_rows) (e : Named ws named) where
  named_at : (i : ℕ) → i < length named → get_or named i 0 ≡ get_or ws i 0
  named_at i h = ap (λ (l : List ℕ). get_or l i 0) e.front ∙ get_or-take (length named) ws i 0 h

  pub numbers_are : Below named (length named) n → numbers ws ≡ named
  numbers_are f = run_of_take ws (length named) e.ends.within (λ i h q. omega (arith, f i h, named_at i h)) e.ends.rest ∙ sym e.front

  pub run_fits : Below named (length named) n → twice named ≡ false → RunFits ws n
  run_fits f once =
      let q : numbers ws ≡ named = numbers_are f in
      record {
        words = run_forth ws (length named) e.ends.within e.ends.rest ∙ ap (λ (l : List ℕ). run (length ws) l) (sym e.front ∙ sym q);
        below = rw q f;
        once = rw q once;
      }

  module _ (f : RunFits ws n) where
    read : (i : ℕ) → get_or ws i 0 ≡ get_or (run (length ws) (numbers ws)) i 0
    read i = ap (λ (l : List ℕ). get_or l i 0) f.words

    short : length (numbers ws) ≤ length ws
    short = length_run_of (length ws) ws

    not_less : length (numbers ws) < length named → ⊥
    not_less h =
        e.ends.last (omega arith)
        (read (length named - 1) ∙ run_ones (length ws) (numbers ws) short (length named - 1) (omega arith) (let w = e.ends.within in omega arith))

    not_more : length named < length (numbers ws) → ⊥
    not_more h =
        let k = length named in
        let s = short in
        let o : get_or ws k 0 ≡ ones = e.ends.rest k (omega arith) (omega arith) in
        omega (arith, read k, get_d_run (length ws) k (numbers ws) h, f.below k h)

    length_is : length (numbers ws) ≡ length named
    length_is = omega (arith, not_less, not_more)

    pub below_of : Below named (length named) n
    below_of i h =
        rw (named_at i h, read i, get_d_run (length ws) i (numbers ws) (omega (arith, length_is))) (f.below i (omega (arith, length_is)))

    pub named_is : numbers ws ≡ named
    named_is = numbers_are below_of
