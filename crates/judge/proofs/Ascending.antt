-- What the walk along the address run keeps, and what it says at its end.
use Prim.Native.Nat.{ℕ, ◌+◌, ◌≤◌, ◌<◌}
use mathlib.Core.Path.{◌≡◌, refl, ◌∙◌}
use mathlib.Core.Bool.{true}
use mathlib.Core.Logic.{dite}
use mathlib.Core.List.{List, ◌∷◌}
use native.Mathlib.Numerals.{add-one}
use native.Mathlib.Omega.{arith}
use native.Mathlib.Decide.{ℕ_discrete}
use borrow.Author.Count.{below_more}
use lib.ListN.{get_or}
use Rattle.layout.specs.Layout.{ones}
use Rattle.judge.specs.Fits.{Below, Rises, words_at, used_at}

-- the words after the first
pub rest_at : {order rest : List ℕ} {first : ℕ} → order ≡ first ∷ rest → (i : ℕ) → get_or order (i + 1) 0 ≡ get_or rest i 0
rest_at e i = rw (e, add-one) refl

module _ (ws order : List ℕ) (rows : ℕ) where
  -- the address of the row that word i names
  abbrev pub address_by : ℕ → ℕ
  address_by i = (words_at ws (get_or order i 0)).address

  -- the words up to i fit, but that the last of their addresses, which is at hand, may be all ones
  pub record Kept (last i : ℕ) : Type 0 where
    pub below : Below order (i + 1) rows
    pub first : used_at ws (get_or order 0 0) ≡ true
    pub rises : Rises ws order (i + 1)
    pub low : (j : ℕ) → j < i → address_by j ≡ ones → ⊥
    pub top : last ≡ address_by i

  module _ {last i : ℕ} (k : Kept last i) where
    -- no word is above all ones, so an address that is all ones is the last
    pub kept_on : get_or order (i + 1) 0 < rows → last < address_by (i + 1) → address_by (i + 1) ≤ ones → Kept (address_by (i + 1)) (i + 1)
    kept_on b g m = record {
      below = below_more _ _ k.below b;
      first = k.first;
      rises = λ j l. dite (ℕ_discrete j i)
          (λ (e : j ≡ i). rw (e, ← k.top) g)
          (λ (e : j ≡ i → ⊥). k.rises j (omega arith));
      low = λ j l z. dite (ℕ_discrete j i)
          (λ (e : j ≡ i). let t : last ≡ ones = k.top ∙ rw e at z in omega arith)
          (λ (e : j ≡ i → ⊥). k.low j (omega arith) z);
      top = refl;
    }
