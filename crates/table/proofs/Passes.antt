-- Passes over the rows and over the recency list: what is still to do from a place on, and what a row's words say.
use Rattle.std.specs.Prelude.{if◌then◌else◌, None, Some}
use Prim.Native.Nat.{ℕ, suc, ◌+◌, ◌*◌, ◌<◌, ◌≤◌}
use mathlib.Core.Bool.{Bool, true, false, not, ◌||◌}
use mathlib.Core.List.{List, [], ◌∷◌}
use mathlib.Core.Path.{◌≡◌, refl, sym, ap, ◌∙◌}
use native.Mathlib.Numerals.{add-one}
use native.Mathlib.Omega.{arith}
use lib.Dec.{eqb}
use lib.ListN.{length, get_or, drop, drop_of_length-le}
use lib.Seq.{drop-cons}
use borrow.Author.Tests.{ne_eqb}
use Rattle.settings_words.proofs.ReadBack.{flag_back}
use Rattle.settings_words.specs.Words.{flag_of}
use Rattle.rules.specs.declared.entry.Entry.{Entry}
use Rattle.rules.specs.declared.entry.Hold.TheVariants.{Unheld, Readers, Writer}
use Rattle.rules.specs.declared.entry.Hold.{Hold}
use Rattle.rules.specs.Types.{Row}
use Rattle.rules.specs.Addresses.{some_address}
use Rattle.rules.specs.Allowed.{HoldAllowed}
use Rattle.rules.specs.Entries.{is_held}
use Rattle.rules.specs.Limits.{most_size}
use Rattle.rules.specs.Room.{clean_bytes}
use Rattle.rules.specs.Rows.{some_entry, total, clean_at, size_at}
use Rattle.layout.specs.Layout.{hold_word}
use Rattle.layout.specs.Picture.{row_words}
use Rattle.layout.specs.Places.{lowest_free}
use Rattle.layout.proofs.ReadBack.{RowAllowed, RowsAllowed}

-- ---- over the rows

-- what a row adds to a sum, and whether its entry passes a test
abbrev pub row_figure : (Entry → ℕ) → Row → ℕ
row_figure figure None = 0
row_figure figure (Some e) = figure e

abbrev pub row_test : (Entry → Bool) → Row → Bool
row_test test None = false
row_test test (Some e) = test e

abbrev pub is_free : Row → Bool
is_free None = true
is_free (Some e) = false

module _ (rows : List Row) (i : ℕ) where
  row_next : i < length rows → drop i rows ≡ get_or rows i None ∷ drop (i + 1) rows
  row_next h = drop-cons rows i None h ∙ ap (λ (n : ℕ). get_or rows i None ∷ drop n rows) (sym (add-one i))

  pub total_next : (figure : Entry → ℕ) → i < length rows → total figure (drop i rows) ≡ row_figure figure (get_or rows i None) + total figure (drop (i + 1) rows)
  unfolding total
  total_next figure h = ap (total figure) (row_next h) ∙ go (get_or rows i None)
    where
      go : (x : Row) → total figure (x ∷ drop (i + 1) rows) ≡ row_figure figure x + total figure (drop (i + 1) rows)
      go None = omega arith
      go (Some e) = refl

  pub total_end : (figure : Entry → ℕ) → length rows ≤ i → total figure (drop i rows) ≡ 0
  unfolding total
  total_end figure h = rw (drop_of_length-le rows h)

  pub entry_next : (test : Entry → Bool) → i < length rows → some_entry test (drop i rows) ≡ row_test test (get_or rows i None) || some_entry test (drop (i + 1) rows)
  unfolding some_entry
  entry_next test h = ap (some_entry test) (row_next h) ∙ go (get_or rows i None)
    where
      go : (x : Row) → some_entry test (x ∷ drop (i + 1) rows) ≡ row_test test x || some_entry test (drop (i + 1) rows)
      go None = refl
      go (Some e) = refl

  pub entry_end : (test : Entry → Bool) → length rows ≤ i → some_entry test (drop i rows) ≡ false
  unfolding some_entry
  entry_end test h = rw (drop_of_length-le rows h)

  pub lowest_next : i < length rows → lowest_free (drop i rows) ≡ (if is_free (get_or rows i None) then 0 else suc (lowest_free (drop (i + 1) rows)))
  unfolding lowest_free
  lowest_next h = ap lowest_free (row_next h) ∙ go (get_or rows i None)
    where
      go : (x : Row) → lowest_free (x ∷ drop (i + 1) rows) ≡ (if is_free x then 0 else suc (lowest_free (drop (i + 1) rows)))
      go None = refl
      go (Some e) = refl

  pub lowest_end : length rows ≤ i → lowest_free (drop i rows) ≡ 0
  unfolding lowest_free
  lowest_end h = rw (drop_of_length-le rows h)

-- a sum of figures that are no larger than the sizes
pub total_most : (figure : Entry → ℕ) → ((e : Entry) → figure e ≤ e.size) → (rows : List Row) → RowsAllowed rows → total figure rows ≤ length rows * most_size
unfolding total
total_most figure small [] f = omega arith
total_most figure small (None ∷ rows) f = let ih = total_most figure small rows f.1 in omega arith
total_most figure small (Some e ∷ rows) f =
    let ih = total_most figure small rows f.1 in
    let k = f.0.size in
    omega (arith, small e)

-- ---- what a row's words say

pub size_word : (x : Row) → get_or (row_words x) 1 0 ≡ row_figure (λ e. e.size) x
size_word None = refl
size_word (Some e) = refl

-- the size, if the entry is dirty
abbrev pub dirty_size : Entry → ℕ
dirty_size e = if e.dirty then e.size else 0

pub dirty_small : (e : Entry) → dirty_size e ≤ e.size
dirty_small e = go e.dirty
  where
    go : (b : Bool) → (if b then e.size else 0) ≤ e.size
    go true = omega arith
    go false = omega arith

pub dirty_word : (x : Row) → (if flag_of (get_or (row_words x) 2 0) then get_or (row_words x) 1 0 else 0) ≡ row_figure dirty_size x
dirty_word None = refl
dirty_word (Some e) = rw (flag_back e.dirty)

hold_zero : (h : Hold) → HoldAllowed h → eqb (hold_word h) 0 ≡ not (is_held h)
hold_zero Unheld k = refl
hold_zero (Readers n) k = ne_eqb n 0 (λ (q : n ≡ 0). omega arith)
hold_zero Writer k = refl

pub held_word : (x : Row) → RowAllowed x → eqb (get_or (row_words x) 5 0) 0 ≡ not (row_test (λ e. is_held e.hold) x)
held_word None k = refl
held_word (Some e) k = hold_zero e.hold k.hold

pub free_word : (x : Row) → RowAllowed x → eqb (get_or (row_words x) 1 0) 0 ≡ is_free x
free_word None k = refl
free_word (Some e) k = ne_eqb e.size 0 (λ (q : e.size ≡ 0). let l = k.nonempty in omega arith)

-- ---- over the recency list

module _ (l : List ℕ) (i : ℕ) where
  address_next : i < length l → drop i l ≡ get_or l i 0 ∷ drop (i + 1) l
  address_next h = drop-cons l i 0 h ∙ ap (λ (n : ℕ). get_or l i 0 ∷ drop n l) (sym (add-one i))

  pub some_next : (test : ℕ → Bool) → i < length l → some_address test (drop i l) ≡ test (get_or l i 0) || some_address test (drop (i + 1) l)
  unfolding some_address
  some_next test h = ap (some_address test) (address_next h)

  pub some_end : (test : ℕ → Bool) → length l ≤ i → some_address test (drop i l) ≡ false
  unfolding some_address
  some_end test h = rw (drop_of_length-le l h)

  pub clean_next : (rows : List Row) → i < length l
      → clean_bytes rows (drop i l) ≡ (if clean_at rows (get_or l i 0) then size_at rows (get_or l i 0) else 0) + clean_bytes rows (drop (i + 1) l)
  unfolding clean_bytes
  clean_next rows h = ap (clean_bytes rows) (address_next h)

  pub clean_end : (rows : List Row) → length l ≤ i → clean_bytes rows (drop i l) ≡ 0
  unfolding clean_bytes
  clean_end rows h = rw (drop_of_length-le l h)
