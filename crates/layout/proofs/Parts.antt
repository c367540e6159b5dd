-- The leaf operations on a table's words, part by part: a row, a word of a row, a run.
use Rattle.std.specs.Prelude.{None, Some}
use Prim.Native.Nat.{ℕ, suc, ◌+◌, ◌≤◌, ◌<◌}
use mathlib.Core.List.{List, [], ◌∷◌, ◌++◌, append_assoc}
use mathlib.Core.Path.{◌≡◌, refl, sym, ap, ◌∙◌}
use native.Mathlib.Omega.{arith}
use lib.ListN.{length, take, drop, get_or, set, length-append, length-set, get_or-append}
use lib.Seq.{take_at, drop_at, split_at, set_split, length-take-le, set-append_left}
use Rattle.rules.specs.declared.entry.Entry.{Entry}
use Rattle.rules.specs.Types.{Row}
use Rattle.rules.specs.Allowed.{HoldAllowed}
use Rattle.layout.specs.Layout.{header_words, width, row_at, recency_at, addresses_at}
use Rattle.layout.specs.Leaves.{over, put_row}
use Rattle.layout.specs.Picture.{row_words, rows_words, run, entry_of}
use Rattle.layout.proofs.Cuts.{end_run}
use Rattle.layout.proofs.ReadBack.{entry_seam}
use Rattle.layout.proofs.Seams.{length_row, length_rows, length_run, past, laid, length_ahead, at_recency, at_addresses, length_to_addresses}

pub over_seam : (f : List ℕ → List ℕ) (A R B : List ℕ) (a n : ℕ) → length A ≡ a → length R ≡ n → over a n f (A ++ (R ++ B)) ≡ A ++ (f R ++ B)
over_seam f A R B a n p q = rw (take_at A (R ++ B) a p, drop_at A (R ++ B) a p, take_at R B n q, drop_at R B n q)

set_past : (A X : List ℕ) (k v : ℕ) → set (A ++ X) (length A + k) v ≡ A ++ set X k v
set_past [] X k v = let e : 0 + k ≡ k = omega arith in rw e
set_past (x ∷ A) X k v = let e : suc (length A) + k ≡ suc (length A + k) = omega arith in rw e (ap (λ (l : List ℕ). x ∷ l) (set_past A X k v))

set_seam : (A R B : List ℕ) (a k v : ℕ) → length A ≡ a → k < length R → set (A ++ (R ++ B)) (a + k) v ≡ A ++ (set R k v ++ B)
set_seam A R B a k v p h = rw (← p) (set_past A (R ++ B) k v ∙ ap (λ (l : List ℕ). A ++ l) (set-append_left R B k v h))

-- ---- rows

rows_append : (a b : List Row) → rows_words (a ++ b) ≡ rows_words a ++ rows_words b
unfolding rows_words
rows_append [] b = refl
rows_append (x ∷ a) b = rw (rows_append a b) (sym (append_assoc (row_words x) (rows_words a) (rows_words b)))

rows_one : (a : List Row) (x : Row) (b : List Row) → rows_words (a ++ x ∷ b) ≡ rows_words a ++ (row_words x ++ rows_words b)
unfolding rows_words
rows_one a x b = rows_append a (x ∷ b)

grouped : (h a x z t : List ℕ) → h ++ ((a ++ (x ++ z)) ++ t) ≡ (h ++ a) ++ (x ++ (z ++ t))
grouped h a x z t = simp append_assoc

module _ (head : List ℕ) (rows : List Row) (h : length head ≡ header_words) (l m rest : List ℕ) (r : ℕ) (low : r < length rows) where
  -- the words before row r, and those after it
  abbrev before : List ℕ
  before = head ++ rows_words (take r rows)

  abbrev after : List ℕ
  after = rows_words (drop (suc r) rows) ++ (run (length rows) l ++ (run (length rows) m ++ rest))

  length_before : length before ≡ row_at r
  length_before = simp length-append (omega (arith, length_rows (take r rows), length-take-le r rows (omega arith)))

  row_at_seam : laid head rows l m rest ≡ before ++ (row_words (get_or rows r None) ++ after)
  row_at_seam =
      ap (λ (x : List ℕ). head ++ (x ++ (run (length rows) l ++ (run (length rows) m ++ rest))))
      (ap rows_words (split_at rows r None low) ∙ rows_one (take r rows) (get_or rows r None) (drop (suc r) rows))
      ∙ grouped head (rows_words (take r rows)) (row_words (get_or rows r None)) (rows_words (drop (suc r) rows)) _

  row_set : (x : Row) → laid head (set rows r x) l m rest ≡ before ++ (row_words x ++ after)
  row_set x =
      rw (length-set rows r x)
      (ap (λ (y : List ℕ). head ++ (y ++ (run (length rows) l ++ (run (length rows) m ++ rest))))
      (ap rows_words (set_split rows r x low) ∙ rows_one (take r rows) x (drop (suc r) rows))
      ∙ grouped head (rows_words (take r rows)) (row_words x) (rows_words (drop (suc r) rows)) _)

  pub row_put : (x : Row) → put_row r x (laid head rows l m rest) ≡ laid head (set rows r x) l m rest
  unfolding put_row
  row_put x =
      ap (over (row_at r) width (λ old. row_words x)) row_at_seam
      ∙ over_seam (λ old. row_words x) before (row_words (get_or rows r None)) after (row_at r) width length_before (length_row (get_or rows r None))
      ∙ sym (row_set x)

  -- one word of a used row written
  pub word_put : (e f : Entry) (k v : ℕ) → k < width → get_or rows r None ≡ Some e → set (row_words (Some e)) k v ≡ row_words (Some f)
      → set (laid head rows l m rest) (row_at r + k) v ≡ laid head (set rows r (Some f)) l m rest
  word_put e f k v q u w =
      ap (λ (ws : List ℕ). set ws (row_at r + k) v) (row_at_seam ∙ ap (λ (x : Row). before ++ (row_words x ++ after)) u)
      ∙ set_seam before (row_words (Some e)) after (row_at r) k v length_before (omega arith)
      ∙ ap (λ (x : List ℕ). before ++ (x ++ after)) w
      ∙ sym (row_set (Some f))

  -- a word of the row
  pub row_word : (k : ℕ) → k < width → get_or (laid head rows l m rest) (row_at r + k) 0 ≡ get_or (row_words (get_or rows r None)) k 0
  row_word k q =
      ap (λ (ws : List ℕ). get_or ws (row_at r + k) 0) row_at_seam
      ∙ past before _ (row_at r) k length_before
      ∙ get_or-append (row_words (get_or rows r None)) _ 0 k (let e = length_row (get_or rows r None) in omega arith)

  -- the entry of the row
  pub row_entry : (e : Entry) → get_or rows r None ≡ Some e → HoldAllowed e.hold → entry_of (laid head rows l m rest) r ≡ e
  row_entry e u k =
      ap (λ (ws : List ℕ). entry_of ws r) (row_at_seam ∙ ap (λ (x : Row). before ++ (row_words x ++ after)) u)
      ∙ entry_seam before after r length_before e k

-- ---- runs

module _ (head : List ℕ) (rows : List Row) (h : length head ≡ header_words) (l m rest : List ℕ) (short : length l ≤ length rows) where
  pub over_recency : (f : List ℕ → List ℕ) (k : List ℕ) → f (run (length rows) l) ≡ run (length rows) k
      → over (recency_at (length rows)) (length rows) f (laid head rows l m rest) ≡ laid head rows k m rest
  over_recency f k e =
      ap (over (recency_at (length rows)) (length rows) f) (at_recency head rows h l m rest)
      ∙ over_seam f (head ++ rows_words rows) (run (length rows) l) _ _ _ (length_ahead head rows h) (length_run _ _ short)
      ∙ ap (λ (x : List ℕ). (head ++ rows_words rows) ++ (x ++ (run (length rows) m ++ rest))) e
      ∙ sym (at_recency head rows h k m rest)

  pub recency_end : (v : ℕ) → length l < length rows → set (laid head rows l m rest) (recency_at (length rows) + length l) v ≡ laid head rows (l ++ v ∷ []) m rest
  recency_end v k =
      ap (λ (ws : List ℕ). set ws (recency_at (length rows) + length l) v) (at_recency head rows h l m rest)
      ∙ set_seam (head ++ rows_words rows) (run (length rows) l) _ (recency_at (length rows)) (length l) v (length_ahead head rows h) (let e = length_run (length rows) l short in omega arith)
      ∙ ap (λ (x : List ℕ). (head ++ rows_words rows) ++ (x ++ (run (length rows) m ++ rest))) (end_run (length rows) v l k)
      ∙ sym (at_recency head rows h (l ++ v ∷ []) m rest)

  pub recency_word : (pos : ℕ) → pos < length rows → get_or (laid head rows l m rest) (recency_at (length rows) + pos) 0 ≡ get_or (run (length rows) l) pos 0
  recency_word pos p =
      ap (λ (ws : List ℕ). get_or ws (recency_at (length rows) + pos) 0) (at_recency head rows h l m rest)
      ∙ past (head ++ rows_words rows) _ (recency_at (length rows)) pos (length_ahead head rows h)
      ∙ get_or-append (run (length rows) l) _ 0 pos (let e = length_run (length rows) l short in omega arith)

  module _ (narrow : length m ≤ length rows) where
    pub over_addresses : (f : List ℕ → List ℕ) (k : List ℕ) → f (run (length rows) m) ≡ run (length rows) k
        → over (addresses_at (length rows)) (length rows) f (laid head rows l m rest) ≡ laid head rows l k rest
    over_addresses f k e =
        ap (over (addresses_at (length rows)) (length rows) f) (at_addresses head rows h l m rest)
        ∙ over_seam f ((head ++ rows_words rows) ++ run (length rows) l) (run (length rows) m) _ _ _ (length_to_addresses head rows h l m rest short) (length_run _ _ narrow)
        ∙ ap (λ (x : List ℕ). ((head ++ rows_words rows) ++ run (length rows) l) ++ (x ++ rest)) e
        ∙ sym (at_addresses head rows h l k rest)

    pub address_word : (pos : ℕ) → pos < length rows → get_or (laid head rows l m rest) (addresses_at (length rows) + pos) 0 ≡ get_or (run (length rows) m) pos 0
    address_word pos p =
        ap (λ (ws : List ℕ). get_or ws (addresses_at (length rows) + pos) 0) (at_addresses head rows h l m rest)
        ∙ past ((head ++ rows_words rows) ++ run (length rows) l) _ (addresses_at (length rows)) pos (length_to_addresses head rows h l m rest short)
        ∙ get_or-append (run (length rows) m) _ 0 pos (let e = length_run (length rows) m narrow in omega arith)
