-- The rows that fit, counted from the first on.
use Prim.Native.Nat.{ℕ, ◌+◌, ◌≤◌}
use mathlib.Core.Path.{◌≡◌, refl, sym, ◌∙◌}
use mathlib.Core.Bool.{Bool, true, false}
use mathlib.Core.List.{List}
use native.Mathlib.Nat.{add-zero}
use native.Mathlib.Omega.{arith}
use borrow.Author.Count.{below_more}
use borrow.Author.Tests.{eq-eqb, ne_eqb}
use Rattle.std.specs.Int.{from_bool}
use Rattle.settings_words.specs.Words.{flag_word}
use Rattle.judge.specs.declared.row.RowWords.{RowWords}
use Rattle.judge.specs.Fits.{SizeFits, FreeFits, EntryFits, RowFits, free, entry, CountedRows, words_at, used_at, mark_at, tally}
use Rattle.judge.proofs.Tally.{tally_on, tally_low}

-- the size tells which of the two a row is
module _ {w : RowWords} {m : Bool} where
  pub entry_of : RowFits w m → SizeFits w.size → EntryFits w m
  entry_of (free f) s = absurd (s.some f.size)
  entry_of (entry f) s = f

  pub free_of : RowFits w m → (SizeFits w.size → ⊥) → FreeFits w m
  free_of (free f) n = f
  free_of (entry f) n = absurd (n f.size)

-- a mark as a number
mark_word : (b : Bool) → from_bool b ≡ flag_word b
mark_word true = refl
mark_word false = refl

pub mark_low : (b : Bool) → from_bool b ≤ 1
mark_low true = omega arith
mark_low false = omega arith

module _ {ws : List ℕ} {listed : List Bool} where
  pub counted_none : CountedRows ws 0 listed 0 0
  unfolding tally
  counted_none = record { rows = λ r h. absurd (omega arith); used = refl; marked = refl }

  module _ {i k l : ℕ} (c : CountedRows ws i listed k l) where
    pub few_used : k ≤ i
    few_used = omega (arith, c.used, tally_low (used_at ws) i)

    pub few_marked : l ≤ i
    few_marked = omega (arith, c.marked, tally_low (mark_at listed) i)

    module _ {more word : ℕ} (w : word ≡ from_bool (mark_at listed i)) where
      counted_on : (b : Bool) → used_at ws i ≡ b → more ≡ k + flag_word b → RowFits (words_at ws i) (mark_at listed i) → CountedRows ws (i + 1) listed more (l + word)
      counted_on b u m f = record {
        rows = below_more _ _ c.rows f;
        used = rw (tally_on (used_at ws) i, c.used, u) (sym m);
        marked = rw (tally_on (mark_at listed) i, c.marked, w, mark_word (mark_at listed i));
      }

      pub counted_entry : EntryFits (words_at ws i) (mark_at listed i) → more ≡ k + 1 → CountedRows ws (i + 1) listed more (l + word)
      counted_entry f m = counted_on true (rw (ne_eqb _ _ f.size.some)) m (entry f)

      pub counted_free : FreeFits (words_at ws i) (mark_at listed i) → more ≡ k → CountedRows ws (i + 1) listed more (l + word)
      counted_free f m = counted_on false (rw (eq-eqb _ _ f.size)) (m ∙ sym (add-zero k)) (free f)
