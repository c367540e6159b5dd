-- Where the parts of a table stand: its words are a head, rows, two runs and a rest, each of known length.
use Rattle.std.specs.Prelude.{None, Some}
use Prim.Native.Nat.{ℕ, ◌+◌, ◌*◌, ◌≤◌}
use mathlib.Core.List.{List, [], ◌∷◌, ◌++◌, append_assoc}
use mathlib.Core.Path.{◌≡◌, refl, ap, ap₂, ◌∙◌}
use native.Mathlib.Omega.{arith}
use lib.ListN.{length, drop, get_or, length-append, length-replicate}
use lib.Seq.{drop_at, get_or-append-add}
use Rattle.settings_words.proofs.Flat.{words_length}
use Rattle.rules.specs.Types.{Row}
use Rattle.rules.specs.Cache.{Cache}
use Rattle.layout.specs.Layout.{header_words, width, recency_at, addresses_at, layout_words}
use Rattle.layout.specs.Picture.{row_words, rows_words, run, head_words}

-- ---- lengths

pub length_head : (c : Cache) → length (head_words c) ≡ header_words
length_head c = let s = words_length c.settings in omega arith

pub length_row : (x : Row) → length (row_words x) ≡ width
length_row None = refl
length_row (Some e) = refl

pub length_rows : (rows : List Row) → length (rows_words rows) ≡ length rows * width
unfolding rows_words
length_rows [] = refl
length_rows (x ∷ rows) = simp length-append (omega (arith, length_row x, length_rows rows))

pub length_run : (n : ℕ) (l : List ℕ) → length l ≤ n → length (run n l) ≡ n
unfolding run
length_run n l h = simp (length-append, length-replicate) (omega arith)

-- ---- a word past a seam

pub past : (A X : List ℕ) (a k : ℕ) → length A ≡ a → get_or (A ++ X) (a + k) 0 ≡ get_or X k 0
past A X a k p = rw (← p) (get_or-append-add A X k 0)

-- ---- the whole table

abbrev pub laid : List ℕ → List Row → List ℕ → List ℕ → List ℕ → List ℕ
laid head rows l m rest = head ++ (rows_words rows ++ (run (length rows) l ++ (run (length rows) m ++ rest)))

module _ (head : List ℕ) (rows : List Row) (h : length head ≡ header_words) where
  pub length_ahead : length (head ++ rows_words rows) ≡ recency_at (length rows)
  length_ahead = simp length-append (omega (arith, length_rows rows))

  module _ (l m rest : List ℕ) where
    pub at_recency : laid head rows l m rest ≡ (head ++ rows_words rows) ++ (run (length rows) l ++ (run (length rows) m ++ rest))
    at_recency = simp append_assoc

    pub at_addresses : laid head rows l m rest ≡ ((head ++ rows_words rows) ++ run (length rows) l) ++ (run (length rows) m ++ rest)
    at_addresses = simp append_assoc

    at_rest : laid head rows l m rest ≡ (((head ++ rows_words rows) ++ run (length rows) l) ++ run (length rows) m) ++ rest
    at_rest = simp append_assoc

    pub drop_recency : drop (recency_at (length rows)) (laid head rows l m rest) ≡ run (length rows) l ++ (run (length rows) m ++ rest)
    drop_recency = ap (drop (recency_at (length rows))) at_recency ∙ drop_at (head ++ rows_words rows) _ (recency_at (length rows)) length_ahead

    module _ (k : length l ≤ length rows) where
      pub length_to_addresses : length ((head ++ rows_words rows) ++ run (length rows) l) ≡ addresses_at (length rows)
      length_to_addresses = length-append (head ++ rows_words rows) _ ∙ ap₂ (λ (x y : ℕ). x + y) length_ahead (length_run (length rows) l k)

      pub drop_addresses : drop (addresses_at (length rows)) (laid head rows l m rest) ≡ run (length rows) m ++ rest
      drop_addresses = ap (drop (addresses_at (length rows))) at_addresses ∙ drop_at ((head ++ rows_words rows) ++ run (length rows) l) _ (addresses_at (length rows)) length_to_addresses

      module _ (i : length m ≤ length rows) where
        length_to_rest : length (((head ++ rows_words rows) ++ run (length rows) l) ++ run (length rows) m) ≡ layout_words (length rows)
        length_to_rest = length-append ((head ++ rows_words rows) ++ run (length rows) l) _ ∙ ap₂ (λ (x y : ℕ). x + y) length_to_addresses (length_run (length rows) m i)

        pub drop_rest : drop (layout_words (length rows)) (laid head rows l m rest) ≡ rest
        drop_rest = ap (drop (layout_words (length rows))) at_rest ∙ drop_at (((head ++ rows_words rows) ++ run (length rows) l) ++ run (length rows) m) rest (layout_words (length rows)) length_to_rest

        pub length_laid : length (laid head rows l m rest) ≡ layout_words (length rows) + length rest
        length_laid = ap length at_rest ∙ length-append (((head ++ rows_words rows) ++ run (length rows) l) ++ run (length rows) m) rest ∙ ap (λ (n : ℕ). n + length rest) length_to_rest
