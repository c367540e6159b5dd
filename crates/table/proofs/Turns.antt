-- One turn of each pass over a good table, in the code's own terms.
use Rattle.std.specs.Prelude.{if◌then◌else◌, Option, None, Some}
use Prim.Native.Nat.{ℕ, suc, ◌+◌, ◌*◌, ◌<◌, ◌≤◌}
use mathlib.Core.Bool.{true, false, not}
use mathlib.Core.List.{List}
use mathlib.Core.Path.{◌≡◌, refl, sym, ap, ap₂, ◌∙◌}
use native.Mathlib.Omega.{arith}
use lib.Dec.{eqb}
use lib.ListN.{length, get_or, drop}
use borrow.Author.Tests.{eq-eqb, ne_eqb, not-true, not-false}
use Rattle.settings_words.specs.Words.{flag_of}
use Rattle.rules.specs.declared.entry.Entry.{Entry}
use Rattle.rules.specs.Addresses.{some_address}
use Rattle.rules.specs.Entries.{is_held, is_clean}
use Rattle.rules.specs.Limits.{most_size, most_rows}
use Rattle.rules.specs.Rows.{get, passes, some_entry, total, held_bytes, clean_at, dirty_at}
use Rattle.rules.proofs.Moves.{clean_of}
use Rattle.layout.specs.Layout.{row_at}
use Rattle.layout.specs.Picture.{cache_in}
use Rattle.layout.specs.Places.{lowest_free}
use Rattle.layout.proofs.Held.{all_allowed, row_allowed, recency_get}
use Rattle.table.specs.Asked.{GoodRows}
use Rattle.table.proofs.Passes.{row_test, is_free, dirty_size, total_next, total_most, entry_next, lowest_next, some_next, size_word, dirty_word, held_word, free_word}
use Rattle.table.proofs.Told.{row_word}

module _ {ws : List ℕ} {rows : ℕ} (g : GoodRows ws rows) where
  -- ---- sums over the rows

  -- a sum over the rows fits a word
  pub total_fits : (figure : Entry → ℕ) → ((e : Entry) → figure e ≤ e.size) → total figure (cache_in ws).rows ≤ most_rows * most_size
  total_fits figure small = let k = g.good.steady.rows in omega (arith, total_most figure small (cache_in ws).rows (all_allowed g.good))

  module _ (i : ℕ) (l : i < rows) where
    within : i < length (cache_in ws).rows
    within = let s = g.size in omega arith

    pub held_turn : held_bytes (drop i (cache_in ws).rows) ≡ get_or ws (row_at i + 1) 0 + held_bytes (drop (i + 1) (cache_in ws).rows)
    held_turn =
        total_next (cache_in ws).rows i (λ e. e.size) within
        ∙ ap (λ (n : ℕ). n + held_bytes (drop (i + 1) (cache_in ws).rows)) (sym (row_word g i 1 l (omega arith) ∙ size_word (get_or (cache_in ws).rows i None)))

    dirty_turn_taken : total dirty_size (drop i (cache_in ws).rows)
        ≡ (if flag_of (get_or ws (row_at i + 2) 0) then get_or ws (row_at i + 1) 0 else 0) + total dirty_size (drop (i + 1) (cache_in ws).rows)
    dirty_turn_taken =
        total_next (cache_in ws).rows i dirty_size within
        ∙ ap (λ (n : ℕ). n + total dirty_size (drop (i + 1) (cache_in ws).rows))
        (sym (ap₂ (λ (d n : ℕ). if flag_of d then n else 0) (row_word g i 2 l (omega arith)) (row_word g i 1 l (omega arith)) ∙ dirty_word (get_or (cache_in ws).rows i None)))

    pub dirty_add : (get_or ws (row_at i + 2) 0 ≡ 0 → ⊥) → total dirty_size (drop i (cache_in ws).rows) ≡ get_or ws (row_at i + 1) 0 + total dirty_size (drop (i + 1) (cache_in ws).rows)
    dirty_add q = rw (ne_eqb _ 0 q) at dirty_turn_taken

    pub dirty_on : get_or ws (row_at i + 2) 0 ≡ 0 → total dirty_size (drop i (cache_in ws).rows) ≡ total dirty_size (drop (i + 1) (cache_in ws).rows)
    dirty_on q = let t = rw (eq-eqb _ 0 q) at dirty_turn_taken in omega arith

    -- ---- searches over the rows

    held_test : eqb (get_or ws (row_at i + 5) 0) 0 ≡ not (row_test (λ e. is_held e.hold) (get_or (cache_in ws).rows i None))
    held_test = ap (λ (w : ℕ). eqb w 0) (row_word g i 5 l (omega arith)) ∙ held_word (get_or (cache_in ws).rows i None) (row_allowed g.good i)

    pub held_stop : (get_or ws (row_at i + 5) 0 ≡ 0 → ⊥) → some_entry (λ e. is_held e.hold) (drop i (cache_in ws).rows) ≡ true
    held_stop q =
        entry_next (cache_in ws).rows i (λ e. is_held e.hold) within
        ∙ rw (not-false (row_test (λ e. is_held e.hold) (get_or (cache_in ws).rows i None)) (sym held_test ∙ ne_eqb _ 0 q))

    pub held_on : get_or ws (row_at i + 5) 0 ≡ 0 → some_entry (λ e. is_held e.hold) (drop i (cache_in ws).rows) ≡ some_entry (λ e. is_held e.hold) (drop (i + 1) (cache_in ws).rows)
    held_on q =
        entry_next (cache_in ws).rows i (λ e. is_held e.hold) within
        ∙ rw (not-true (row_test (λ e. is_held e.hold) (get_or (cache_in ws).rows i None)) (sym held_test ∙ eq-eqb _ 0 q))

    free_test : eqb (get_or ws (row_at i + 1) 0) 0 ≡ is_free (get_or (cache_in ws).rows i None)
    free_test = ap (λ (w : ℕ). eqb w 0) (row_word g i 1 l (omega arith)) ∙ free_word (get_or (cache_in ws).rows i None) (row_allowed g.good i)

    pub free_stop : get_or ws (row_at i + 1) 0 ≡ 0 → lowest_free (drop i (cache_in ws).rows) ≡ 0
    free_stop q = lowest_next (cache_in ws).rows i within ∙ rw (sym free_test ∙ eq-eqb _ 0 q)

    pub free_on : (get_or ws (row_at i + 1) 0 ≡ 0 → ⊥) → lowest_free (drop i (cache_in ws).rows) ≡ suc (lowest_free (drop (i + 1) (cache_in ws).rows))
    free_on q = lowest_next (cache_in ws).rows i within ∙ rw (sym free_test ∙ ne_eqb _ 0 q)

  -- ---- over the recency list

  module _ (i : ℕ) (l : i < length (cache_in ws).recency) where
    pub clean_stop : dirty_at (cache_in ws).rows (get_or (cache_in ws).recency i 0) ≡ false → some_address (clean_at (cache_in ws).rows) (drop i (cache_in ws).recency) ≡ true
    clean_stop q =
        some_next (cache_in ws).recency i (clean_at (cache_in ws).rows) l
        ∙ rw (clean_of (λ e. true) (get (cache_in ws).rows (get_or (cache_in ws).recency i 0)) (recency_get g.good i l) q)

    pub clean_on : dirty_at (cache_in ws).rows (get_or (cache_in ws).recency i 0) ≡ true
        → some_address (clean_at (cache_in ws).rows) (drop i (cache_in ws).recency) ≡ some_address (clean_at (cache_in ws).rows) (drop (i + 1) (cache_in ws).recency)
    clean_on q =
        some_next (cache_in ws).recency i (clean_at (cache_in ws).rows) l
        ∙ rw (not_clean (get (cache_in ws).rows (get_or (cache_in ws).recency i 0)) q)
      where
        not_clean : (o : Option Entry) → passes (λ e. e.dirty) o ≡ true → passes is_clean o ≡ false
        not_clean None k = refl
        not_clean (Some e) k = rw k
