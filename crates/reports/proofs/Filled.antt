-- The totals while they are filled: each is what the rows passed have, so that with the rows left it is the whole.
use Rattle.std.specs.Prelude.{if◌then◌else◌, None, Some}
use Prim.Native.Nat.{ℕ, zero, suc, ◌+◌, ◌*◌, ◌≤◌, ◌<◌}
use mathlib.Core.Bool.{Bool}
use mathlib.Core.List.{List}
use mathlib.Core.Path.{◌≡◌, refl, sym, ap, ap₂, ◌∙◌}
use native.Mathlib.Nat.{not-suc-le-zero, le_of_suc-le-suc}
use native.Mathlib.Omega.{arith}
use lib.Dec.{eqb}
use lib.ListN.{length, length-set, get_or, set, drop, replicate}
use lib.Seq.{ext_get_or, get_or-set_same, get_or-set_other}
use borrow.Author.Tests.{eqb-true, eqb-false, eq-eqb}
use Rattle.rules.specs.declared.entry.Entry.{Entry}
use Rattle.rules.specs.Types.{Row}
use Rattle.rules.specs.Limits.{most_idle, most_rows, most_size}
use Rattle.rules.specs.Reports.{idle_count, idle_bytes, totals_from}
use Rattle.rules.proofs.Tests.{split, if_same}
use Rattle.layout.specs.Layout.{row_at}
use Rattle.layout.specs.Picture.{row_words, cache_in}
use Rattle.layout.proofs.Held.{row_allowed}
use Rattle.layout.proofs.ReadBack.{RowAllowed}
use Rattle.table.specs.Asked.{GoodRows}
use Rattle.table.proofs.Passes.{row_figure, total_next, total_end}
use Rattle.table.proofs.Told.{row_word}
use Rattle.table.proofs.Turns.{total_fits}

-- ---- a row

idle_size : ℕ → Entry → ℕ
idle_size j e = if eqb e.idle j then e.size else 0

idle_small : (j : ℕ) (e : Entry) → idle_size j e ≤ e.size
unfolding idle_size
idle_small j e = split (eqb e.idle j) (λ p. rw p (omega arith)) (λ p. rw p (omega arith))

idle_word : (j : ℕ) (x : Row) → (if eqb (get_or (row_words x) 3 0) j then get_or (row_words x) 1 0 else 0) ≡ row_figure (idle_size j) x
unfolding idle_size
idle_word j None = if_same (eqb 0 j) 0
idle_word j (Some e) = refl

idle_most : (x : Row) → RowAllowed x → get_or (row_words x) 3 0 ≤ most_idle
idle_most None h = omega arith
idle_most (Some e) h = h.idle

-- ---- the totals

totals_at : (k n : ℕ) (rows : List Row) (j : ℕ) → j < n → get_or (totals_from idle_count k n rows) j 0 ≡ idle_bytes rows (k + j)
unfolding totals_from
totals_at k zero rows j h = absurd (not-suc-le-zero h)
totals_at k (suc n) rows zero h = ap (idle_bytes rows) (let e : k ≡ k + 0 = omega arith in e)
totals_at k (suc n) rows (suc j) h = totals_at (suc k) n rows j (le_of_suc-le-suc h) ∙ ap (idle_bytes rows) (let e : suc k + j ≡ k + suc j = omega arith in e)

totals_long : (k n : ℕ) (rows : List Row) → length (totals_from idle_count k n rows) ≡ n
unfolding totals_from
totals_long k zero rows = refl
totals_long k (suc n) rows = ap suc (totals_long (suc k) n rows)

zeros : (n k : ℕ) → get_or {A = ℕ} (replicate n 0) k 0 ≡ 0
zeros zero k = refl
zeros (suc n) zero = refl
zeros (suc n) (suc k) = zeros n k

pub record Filled (table totals : List ℕ) (i rows : ℕ) : Type 0 where
  pub within : i ≤ rows
  pub eleven : length totals ≡ 11
  pub each : (j : ℕ) → get_or totals j 0 + idle_bytes (drop i (cache_in table).rows) j ≡ idle_bytes (cache_in table).rows j

pub filled_start : (table : List ℕ) (rows : ℕ) → Filled table (replicate 11 0) 0 rows
filled_start table rows = record { within = omega arith; eleven = refl; each = λ j. rw (zeros 11 j) (omega arith) }

module _ {table totals : List ℕ} {i rows : ℕ} (g : GoodRows table rows) (k : Filled table totals i rows) where
  module _ (l : i < rows) where
    within : i < length (cache_in table).rows
    within = let s = g.size in omega arith

    pub idle_in : get_or table (row_at i + 3) 0 ≤ 10
    idle_in = rw (row_word g i 3 l (omega arith)) (idle_most (get_or (cache_in table).rows i None) (row_allowed g.good i))

    turn : (j : ℕ) → idle_bytes (drop i (cache_in table).rows) j
        ≡ (if eqb (get_or table (row_at i + 3) 0) j then get_or table (row_at i + 1) 0 else 0) + idle_bytes (drop (i + 1) (cache_in table).rows) j
    unfolding idle_size
    turn j =
        total_next (cache_in table).rows i (idle_size j) within
        ∙ ap (λ (n : ℕ). n + idle_bytes (drop (i + 1) (cache_in table).rows) j)
        (sym (ap₂ (λ (d n : ℕ). if eqb d j then n else 0) (row_word g i 3 l (omega arith)) (row_word g i 1 l (omega arith)) ∙ idle_word j (get_or (cache_in table).rows i None)))

    -- a total fits a word with room for the row's size
    pub total_small : get_or totals (get_or table (row_at i + 3) 0) 0 + get_or table (row_at i + 1) 0 ≤ most_rows * most_size
    unfolding idle_size
    total_small =
        let d = get_or table (row_at i + 3) 0 in
        let e = k.each d in
        let f : idle_bytes (drop i (cache_in table).rows) d ≡ get_or table (row_at i + 1) 0 + idle_bytes (drop (i + 1) (cache_in table).rows) d
        = turn d ∙ ap (λ (t : Bool). (if t then get_or table (row_at i + 1) 0 else 0) + idle_bytes (drop (i + 1) (cache_in table).rows) d) (eq-eqb d d refl) in
        omega (arith, total_fits g (idle_size d) (idle_small d))

    pub filled_on : Filled table (set totals (get_or table (row_at i + 3) 0) (get_or totals (get_or table (row_at i + 3) 0) 0 + get_or table (row_at i + 1) 0)) (i + 1) rows
    filled_on = record {
      within = omega arith;
      eleven = length-set totals (get_or table (row_at i + 3) 0) _ ∙ k.eleven;
      each = λ j. split (eqb (get_or table (row_at i + 3) 0) j)
          (λ p. let q = eqb-true (get_or table (row_at i + 3) 0) j p in
          let e = k.each j in
          let f = simp p at (turn j) in
          let m = idle_in in
          let n = k.eleven in
          ap (λ (v : ℕ). v + idle_bytes (drop (i + 1) (cache_in table).rows) j)
          (ap (λ (x : ℕ). get_or (set totals (get_or table (row_at i + 3) 0) (get_or totals (get_or table (row_at i + 3) 0) 0 + get_or table (row_at i + 1) 0)) x 0) (sym q)
          ∙ get_or-set_same totals (get_or table (row_at i + 3) 0) _ 0 (omega arith)
          ∙ ap (λ (x : ℕ). get_or totals x 0 + get_or table (row_at i + 1) 0) q)
          ∙ omega arith)
          (λ p. let q = eqb-false (get_or table (row_at i + 3) 0) j p in
          let e = k.each j in
          let f = simp p at (turn j) in
          ap (λ (v : ℕ). v + idle_bytes (drop (i + 1) (cache_in table).rows) j)
          (get_or-set_other totals (get_or table (row_at i + 3) 0) j _ 0 (λ z. q (sym z)))
          ∙ omega arith);
    }

  pub filled_end : rows ≤ i → totals ≡ totals_from idle_count 0 11 (cache_in table).rows
  filled_end h =
      let n = k.eleven in
      ext_get_or 0 totals (totals_from idle_count 0 11 (cache_in table).rows) (n ∙ sym (totals_long 0 11 (cache_in table).rows))
      (λ j l. whole j ∙ ap (idle_bytes (cache_in table).rows) (let e : j ≡ 0 + j = omega arith in e) ∙ sym (totals_at 0 11 (cache_in table).rows j (omega arith)))
    where
      whole : (j : ℕ) → get_or totals j 0 ≡ idle_bytes (cache_in table).rows j
      whole j =
          let e = k.each j in
          let s = g.size in
          let z : idle_bytes (drop i (cache_in table).rows) j ≡ 0 = total_end (cache_in table).rows i (λ x. if eqb x.idle j then x.size else 0) (omega arith) in
          omega arith
