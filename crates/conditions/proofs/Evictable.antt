-- Whether a new entry can have a row.
use Prim.Native.Nat.{ℕ, suc}
use mathlib.Core.Bool.{Bool, true, false, not}
use mathlib.Core.List.{List, [], ◌∷◌}
use mathlib.Core.Logic.{◌⊎◌, ⊎_elim}
use mathlib.Core.Path.{◌≡◌, refl, sym, ap, ◌∙◌}
use lib.Dec.{ltb}
use lib.ListN.{length}
use borrow.Author.Tests.{lt-ltb, not-true, not-false}
use native.Mathlib.Omega.{arith}
use Rattle.rules.specs.Addresses.{some_address}
use Rattle.rules.specs.Cache.{Cache}
use Rattle.rules.specs.Refusals.{may_evict, no_row}
use Rattle.rules.specs.Rows.{clean_at, has_free}
use Rattle.rules.specs.Types.{Row}
use Rattle.settings.specs.declared.Mode.{Mode}
use Rattle.settings.specs.declared.Mode.TheVariants.{Alone, Lead, Standby}

-- ---- an entry that may be evicted

some_alone : (rows : List Row) (l : List ℕ) → ltb 0 (length l) ≡ some_address (may_evict Alone rows) l
unfolding some_address
some_alone rows [] = refl
some_alone rows (a ∷ l) = lt-ltb 0 (suc (length l)) (omega arith)

module _ {m mode : Mode} (rows : List Row) (l : List ℕ) (p : m ≡ mode) where
  -- alone, if the list has any
  pub evictable_alone : {n : ℕ} → m ≡ Alone → n ≡ length l → ltb 0 n ≡ some_address (may_evict mode rows) l
  evictable_alone q e = ap (ltb 0) e ∙ some_alone rows l ∙ ap (λ (k : Mode). some_address (may_evict k rows) l) (sym q ∙ p)

  -- else, if it has a clean one
  pub evictable_clean : {r : Bool} → (m ≡ Lead) ⊎ (m ≡ Standby) → r ≡ some_address (clean_at rows) l → r ≡ some_address (may_evict mode rows) l
  evictable_clean q e = e ∙ ⊎_elim (λ (h : m ≡ Lead). ap (λ (k : Mode). some_address (may_evict k rows) l) (sym h ∙ p)) (λ (h : m ≡ Standby). ap (λ (k : Mode). some_address (may_evict k rows) l) (sym h ∙ p)) q

-- ---- the tests in turn

module _ (c : Cache) where
  pub row_free : has_free c.rows ≡ true → false ≡ no_row c
  row_free h = rw h

  module _ (h : has_free c.rows ≡ false) where
    pub row_off : not c.settings.evictions ≡ true → true ≡ no_row c
    row_off e = rw (h, not-true c.settings.evictions e)

    pub row_evictable : {r : Bool} → not c.settings.evictions ≡ false → r ≡ some_address (may_evict c.mode c.rows) c.recency → not r ≡ no_row c
    row_evictable e p = rw (h, not-false c.settings.evictions e, p)
