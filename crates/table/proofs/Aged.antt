-- The pass that raises all idle counts: after i rows, those are older and the others as they were.
use Rattle.std.specs.Prelude.{if◌then◌else◌, None, Some}
use Prim.Native.Nat.{ℕ, zero, suc, ◌+◌, ◌<◌, ◌≤◌, min}
use mathlib.Core.List.{List, [], ◌∷◌}
use mathlib.Core.Path.{◌≡◌, refl, sym, ap, subst, ◌∙◌}
use native.Mathlib.Nat.{le_of_suc-le-suc}
use native.Mathlib.Numerals.{add-one}
use native.Mathlib.Omega.{arith}
use lib.Dec.{eqb}
use lib.ListN.{length, get_or, set}
use borrow.Author.Tests.{eq-eqb, ne_eqb}
use Rattle.rules.specs.declared.entry.Entry.{Entry}
use Rattle.rules.specs.Types.{Row}
use Rattle.rules.specs.Allowed.{Distinct, EntryAllowed}
use Rattle.rules.specs.Cache.{Cache, with_rows}
use Rattle.rules.specs.Entries.{with_idle}
use Rattle.rules.specs.Limits.{most_idle}
use Rattle.rules.specs.Resizing.{older}
use Rattle.rules.specs.Rows.{get, amend_all}
use Rattle.rules.proofs.Fit.{fit_all}
use Rattle.rules.proofs.Found.{length_amend_all}
use Rattle.rules.proofs.Moves.{sound_ages}
use Rattle.rules.proofs.Tests.{split}
use Rattle.layout.specs.Holds.{Holds}
use Rattle.layout.specs.Layout.{row_at}
use Rattle.layout.specs.Picture.{row_words, encode}
use Rattle.layout.proofs.Encoded.{encode_word, word_encode}
use Rattle.layout.proofs.Held.{holds, row_allowed}
use Rattle.layout.proofs.ReadBack.{RowAllowed}
use Rattle.layout.proofs.Rows.{amend_row}
use Rattle.table.specs.Told.{age_words}
use Rattle.table.proofs.Changed.{steady_with, fit_of}

abbrev older_row : Row → Row
older_row None = None
older_row (Some e) = Some (older e)

-- the first i rows older
unfoldable pub aged_to : ℕ → List Row → List Row
aged_to zero rows = rows
aged_to (suc i) [] = []
aged_to (suc i) (x ∷ rows) = older_row x ∷ aged_to i rows

length_aged : (i : ℕ) (rows : List Row) → length (aged_to i rows) ≡ length rows
unfolding aged_to
length_aged zero rows = refl
length_aged (suc i) [] = refl
length_aged (suc i) (x ∷ rows) = ap suc (length_aged i rows)

-- row i is still as it was
aged_row : (i : ℕ) (rows : List Row) → get_or (aged_to i rows) i None ≡ get_or rows i None
unfolding aged_to
aged_row zero rows = refl
aged_row (suc i) [] = refl
aged_row (suc i) (x ∷ rows) = aged_row i rows

aged_next : (i : ℕ) (rows : List Row) → i < length rows → set (aged_to i rows) i (older_row (get_or rows i None)) ≡ aged_to (suc i) rows
unfolding aged_to
aged_next i [] h = absurd (omega arith)
aged_next zero (x ∷ rows) h = refl
aged_next (suc i) (x ∷ rows) h = ap (λ (r : List Row). older_row x ∷ r) (aged_next i rows (le_of_suc-le-suc h))

-- a free row needs no change
aged_free : (i : ℕ) (rows : List Row) → get_or rows i None ≡ None → aged_to (suc i) rows ≡ aged_to i rows
unfolding aged_to
aged_free zero [] e = refl
aged_free zero (x ∷ rows) e = rw e
aged_free (suc i) [] e = refl
aged_free (suc i) (x ∷ rows) e = ap (λ (r : List Row). older_row x ∷ r) (aged_free i rows e)

aged_all : (i : ℕ) (rows : List Row) → length rows ≤ i → aged_to i rows ≡ amend_all older rows
unfolding aged_to amend_all
aged_all zero [] h = refl
aged_all zero (x ∷ rows) h = absurd (omega arith)
aged_all (suc i) [] h = refl
aged_all (suc i) (None ∷ rows) h = ap (λ (r : List Row). None ∷ r) (aged_all i rows (le_of_suc-le-suc h))
aged_all (suc i) (Some e ∷ rows) h = ap (λ (r : List Row). Some (older e) ∷ r) (aged_all i rows (le_of_suc-le-suc h))

-- addresses stay distinct
aged_none : (i b : ℕ) (rows : List Row) → get rows b ≡ None → get (aged_to i rows) b ≡ None
unfolding aged_to get
aged_none zero b rows n = n
aged_none (suc i) b [] n = n
aged_none (suc i) b (None ∷ rows) n = aged_none i b rows n
aged_none (suc i) b (Some e ∷ rows) n = split (eqb e.address b) (λ p. let q = simp p at n in simp p (absurd (let z : ◌≡◌ {A = ℕ} 0 1 = cc in omega arith))) (λ p. simp p (aged_none i b rows (simp p at n)))

aged_distinct : (i : ℕ) (rows : List Row) → Distinct rows → Distinct (aged_to i rows)
unfolding aged_to
aged_distinct zero rows d = d
aged_distinct (suc i) [] d = d
aged_distinct (suc i) (None ∷ rows) d = aged_distinct i rows d
aged_distinct (suc i) (Some e ∷ rows) d = (aged_none i e.address rows d.0, aged_distinct i rows d.1)

module _ {ws : List ℕ} {c : Cache} {rest : List ℕ} (h : Holds ws c rest) where
  -- the words after i rows
  abbrev pub aged_words : ℕ → List ℕ
  aged_words i = encode (with_rows (aged_to i c.rows) c.recency c) rest

  pub age_start : ws ≡ aged_words 0
  unfolding aged_to
  age_start = h.words

  age_next : (i : ℕ) → i < length c.rows → age_words i (aged_words i) ≡ aged_words (suc i)
  unfolding age_words
  age_next i l = go (get_or c.rows i None) refl
    where
      d : Cache
      d = with_rows (aged_to i c.rows) c.recency c

      low : i < length d.rows
      low = let k = length_aged i c.rows in omega arith

      word : (k : ℕ) → k < 6 → get_or (encode d rest) (row_at i + k) 0 ≡ get_or (row_words (get_or c.rows i None)) k 0
      word k q = encode_word d rest i k low q ∙ ap (λ (x : Row). get_or (row_words x) k 0) (aged_row i c.rows)

      go : (x : Row) → get_or c.rows i None ≡ x
          → (if eqb (get_or (encode d rest) (row_at i + 1) 0) 0 then encode d rest else set (encode d rest) (row_at i + 3) (min (get_or (encode d rest) (row_at i + 3) 0 + 1) most_idle)) ≡ aged_words (suc i)
      go None e =
          rw (eq-eqb _ 0 (word 1 (omega arith) ∙ ap (λ (x : Row). get_or (row_words x) 1 0) e))
          (ap (λ (rows : List Row). encode (with_rows rows c.recency c) rest) (sym (aged_free i c.rows e)))
      go (Some x) e =
          let ok : EntryAllowed x = subst RowAllowed e (row_allowed h i) in
          let size = word 1 (omega arith) ∙ ap (λ (y : Row). get_or (row_words y) 1 0) e in
          let idle = word 3 (omega arith) ∙ ap (λ (y : Row). get_or (row_words y) 3 0) e in
          let apart = aged_distinct i c.rows h.steady.sound.distinct in
          let row = aged_row i c.rows ∙ e in
          let n = min (x.idle + 1) most_idle in
          rw (ne_eqb _ 0 (λ q. let k = ok.nonempty in let z : x.size ≡ 0 = sym size ∙ q in omega arith), idle)
          (word_encode d rest i 3 n (with_idle n) (λ y. refl) x apart low (omega arith) row refl
          ∙ ap (λ (rows : List Row). encode (with_rows rows c.recency c) rest)
          (amend_row (with_idle n) (aged_to i c.rows) i x apart row ∙ ap (λ (y : Row). set (aged_to i c.rows) i (older_row y)) (sym e) ∙ aged_next i c.rows l))

  pub age_step : {vs : List ℕ} (i : ℕ) → i < length c.rows → vs ≡ aged_words i → age_words i vs ≡ aged_words (i + 1)
  age_step i l e = ap (age_words i) e ∙ age_next i l ∙ ap aged_words (sym (add-one i))

  pub age_holds : {vs : List ℕ} (i : ℕ) → length c.rows ≤ i → vs ≡ aged_words i → Holds vs (with_rows (amend_all older c.rows) c.recency c) rest
  age_holds i l e =
      holds (e ∙ ap (λ (rows : List Row). encode (with_rows rows c.recency c) rest) (aged_all i c.rows l))
      (steady_with c (amend_all older c.rows) c.recency h.steady (length_amend_all older c.rows) (fit_all older (λ x. refl) older_allowed c.rows (fit_of c h.steady)) (sound_ages c h.steady.sound))
    where
      older_allowed : (x : Entry) → EntryAllowed x → EntryAllowed (older x)
      older_allowed x k = record { address = k.address; nonempty = k.nonempty; size = k.size; idle = omega arith; hold = k.hold }
