-- The cache that a cache's words picture is that cache, and what lies past them is the rest.
use Prim.Native.Nat.{ℕ, zero, suc, ◌-◌, ◌≤◌, ◌<◌}
use mathlib.Core.List.{List, [], ◌∷◌, ◌++◌, append_assoc, map}
use Rattle.std.proofs.lemmas.Option.{none-some}
use Rattle.std.specs.Prelude.{Some, None}
use mathlib.Core.Path.{◌≡◌, refl, sym, ap, ap₂, ◌∙◌}
use native.Mathlib.Nat.{add-zero, le_of_suc-le-suc}
use native.Mathlib.Omega.{arith}
use lib.Dec.{eqb}
use lib.ListN.{length, drop, length-append, length-map}
use borrow.Author.Tests.{eqb-true, eq-eqb, ne_eqb}
use Rattle.settings_words.specs.FloatsFit.{FloatsFit}
use Rattle.settings_words.specs.Words.{flag_of}
use Rattle.settings_words.proofs.ReadBack.{flag_back, read_back}
use Rattle.rules.specs.declared.entry.Entry.{Entry}
use Rattle.rules.specs.declared.entry.Hold.TheVariants.{Unheld, Readers, Writer}
use Rattle.rules.specs.declared.entry.Hold.{Hold}
use Rattle.rules.specs.Types.{Row}
use Rattle.settings.specs.declared.Mode.TheVariants.{Alone, Lead, Standby}
use Rattle.settings.specs.declared.Mode.{Mode}
use Rattle.rules.specs.Allowed.{HoldAllowed, EntryAllowed, Sound, Distinct}
use Rattle.rules.specs.Cache.{Cache}
use Rattle.rules.specs.Limits.{most_rows}
use Rattle.rules.specs.Rows.{get}
use Rattle.rules.proofs.Tests.{split}
use Rattle.layout.specs.Layout.{ones, row_at, recency_at, mode_word, mode_of, hold_word, hold_of}
use Rattle.layout.specs.Picture.{row_number, address_at, addresses, entry_words, row_words, rows_words, run, head_words, encode, entry_of, row_of, rows_of, run_of, cache_in, rest_in}
use Rattle.layout.proofs.Numbers.{map_back, numbers_low, recency_here, listed_most, used_most}
use Rattle.layout.proofs.Rising.{Each}
use Rattle.layout.proofs.Seams.{past, length_head, length_row, drop_recency, drop_rest}

-- ---- one word

pub mode_back : (m : Mode) → mode_of (mode_word m) ≡ m
mode_back Alone = refl
mode_back Lead = refl
mode_back Standby = refl

pub hold_back : (h : Hold) → HoldAllowed h → hold_of (hold_word h) ≡ h
hold_back Unheld f = refl
hold_back (Readers n) f = simp (ne_eqb n 0 (λ (e : n ≡ 0). omega arith), ne_eqb n 65_536 (λ (e : n ≡ 65_536). omega arith))
hold_back Writer f = refl

-- ---- a row

entry_is : {a b : Entry} → a.address ≡ b.address → a.size ≡ b.size → a.dirty ≡ b.dirty → a.idle ≡ b.idle → a.pinned ≡ b.pinned
    → a.hold ≡ b.hold → a ≡ b
entry_is p q r s t u = λ i. record { address = p i; size = q i; dirty = r i; idle = s i; pinned = t i; hold = u i }

module _ (A B : List ℕ) (r : ℕ) (p : length A ≡ row_at r) where
  pub entry_seam : (e : Entry) → HoldAllowed e.hold → entry_of (A ++ (entry_words e ++ B)) r ≡ e
  unfolding entry_of
  entry_seam e ok =
      entry_is
      (rw add-zero at (past A (entry_words e ++ B) (row_at r) 0 p))
      (past A (entry_words e ++ B) (row_at r) 1 p)
      (ap flag_of (past A (entry_words e ++ B) (row_at r) 2 p) ∙ flag_back e.dirty)
      (past A (entry_words e ++ B) (row_at r) 3 p)
      (ap flag_of (past A (entry_words e ++ B) (row_at r) 4 p) ∙ flag_back e.pinned)
      (ap hold_of (past A (entry_words e ++ B) (row_at r) 5 p) ∙ hold_back e.hold ok)

  free_size : (entry_of (A ++ (row_words None ++ B)) r).size ≡ 0
  unfolding entry_of
  free_size = past A (row_words None ++ B) (row_at r) 1 p

-- the entry of a row, if it has one, is allowed
abbrev pub RowAllowed : Row → Type 0
RowAllowed None = Unit
RowAllowed (Some e) = EntryAllowed e

pub row_seam : (x : Row) (A B : List ℕ) (r : ℕ) → length A ≡ row_at r → RowAllowed x → row_of (entry_of (A ++ (row_words x ++ B)) r) ≡ x
row_seam None A B r p f = rw (eq-eqb _ 0 (free_size A B r p))
row_seam (Some e) A B r p f =
    rw (entry_seam A B r p e f.hold, ne_eqb e.size 0 (λ (q : e.size ≡ 0). let l = f.nonempty in omega arith))

-- ---- all rows

abbrev pub RowsAllowed : List Row → Type 0
RowsAllowed [] = Unit
RowsAllowed (x ∷ rows) = RowAllowed x × RowsAllowed rows

regroup : (a m z b : List ℕ) → a ++ ((m ++ z) ++ b) ≡ (a ++ m) ++ (z ++ b)
regroup a m z b = simp append_assoc

rows_seam : (rows : List Row) (A B : List ℕ) (k : ℕ) → length A ≡ row_at k → RowsAllowed rows → rows_of (length rows) k (A ++ (rows_words rows ++ B)) ≡ rows
unfolding rows_of rows_words
rows_seam [] A B k p f = refl
rows_seam (x ∷ rows) A B k p f =
    let q : length (A ++ row_words x) ≡ row_at (suc k) = length-append A (row_words x) ∙ omega (arith, length_row x) in
    ap₂ (λ (y : Row) (ys : List Row). y ∷ ys)
    (ap (λ (ws : List ℕ). row_of (entry_of (A ++ ws) k)) (append_assoc (row_words x) (rows_words rows) B) ∙ row_seam x A (rows_words rows ++ B) k p f.0)
    (ap (rows_of (length rows) (suc k)) (regroup A (row_words x) (rows_words rows) B) ∙ rows_seam rows (A ++ row_words x) B (suc k) q f.1)

-- ---- a run

pub run_seam : (n : ℕ) (l B : List ℕ) → length l ≤ n → Each (λ (r : ℕ). r < ones) l → run_of n (run n l ++ B) ≡ l
unfolding run_of run
run_seam zero [] B h k = refl
run_seam (suc n) [] B h k = let e : suc n - 0 ≡ suc n = omega arith in rw e
run_seam zero (x ∷ l) B h k = absurd (omega arith)
run_seam (suc n) (x ∷ l) B h k =
    let e : suc n - suc (length l) ≡ n - length l = omega arith in
    rw (e, ne_eqb x ones (λ (q : x ≡ ones). let m = k.0 in omega arith)) (ap (λ (y : List ℕ). x ∷ y) (run_seam n l B (le_of_suc-le-suc h) k.1))

-- ---- the cache

cache_is : {a b : Cache} → a.rows ≡ b.rows → a.recency ≡ b.recency → a.mode ≡ b.mode → a.threshold ≡ b.threshold → a.settings ≡ b.settings
    → a.maximum ≡ b.maximum → a.accesses ≡ b.accesses → a.hits ≡ b.hits → a.count ≡ b.count → a.next ≡ b.next
    → a.exceeded ≡ b.exceeded → a ≡ b
cache_is p q r s t u v w x y z = λ i. record {
  rows = p i;
  recency = q i;
  mode = r i;
  threshold = s i;
  settings = t i;
  maximum = u i;
  accesses = v i;
  hits = w i;
  count = x i;
  next = y i;
  exceeded = z i;
}

-- every entry is found at its address, where addresses are distinct
pub rows_allowed : (rows : List Row) → Distinct rows → ((a : ℕ) (e : Entry) → get rows a ≡ Some e → EntryAllowed e) → RowsAllowed rows
unfolding get
rows_allowed [] d h = tt
rows_allowed (None ∷ rows) d h = (tt, rows_allowed rows d h)
rows_allowed (Some x ∷ rows) d h = (h x.address x (rw (eq-eqb x.address x.address refl)), rows_allowed rows d.1 later)
  where
    later : (a : ℕ) (e : Entry) → get rows a ≡ Some e → EntryAllowed e
    later a e g =
        split (eqb x.address a)
        (λ p. absurd (none-some e (sym (sym g ∙ ap (get rows) (sym (eqb-true x.address a p)) ∙ d.0))))
        (λ p. h a e (simp p g))

module _ (c : Cache) (rest : List ℕ) (few : length c.rows ≤ most_rows)
    (entries : (a : ℕ) (e : Entry) → get c.rows a ≡ Some e → EntryAllowed e) (sound : Sound c) (floats : FloatsFit c.settings) where
  listed_short : length (map (row_number c.rows) c.recency) ≤ length c.rows
  listed_short = omega (arith, length-map c.recency (row_number c.rows), listed_most c sound)

  used_short : length (map (row_number c.rows) (addresses c.rows)) ≤ length c.rows
  used_short = omega (arith, length-map (addresses c.rows) (row_number c.rows), used_most c.rows)

  recency_back : map (row_number c.rows) c.recency ≡ run_of (length c.rows) (drop (recency_at (length c.rows)) (encode c rest))
  unfolding encode
  recency_back = sym (
      ap (run_of (length c.rows)) (drop_recency (head_words c) c.rows (length_head c) _ _ rest)
      ∙ run_seam (length c.rows) _ _ listed_short (numbers_low c.rows ones c.recency (omega arith) (recency_here c sound)))

  rows_back : rows_of (length c.rows) 0 (encode c rest) ≡ c.rows
  unfolding encode
  rows_back = rows_seam c.rows (head_words c) _ 0 (length_head c) (rows_allowed c.rows sound.distinct entries)

  pub cache_back : cache_in (encode c rest) ≡ c
  unfolding cache_in encode
  cache_back =
      cache_is rows_back
      (ap (λ (rows : List Row). map (address_at rows) (run_of (length c.rows) (drop (recency_at (length c.rows)) (encode c rest)))) rows_back
      ∙ ap (map (address_at c.rows)) (sym recency_back)
      ∙ map_back c.rows c.recency (recency_here c sound))
      (mode_back c.mode) refl (read_back c.settings _ floats) refl refl refl refl refl (flag_back c.exceeded)

  pub rest_back : rest_in (encode c rest) ≡ rest
  unfolding rest_in encode
  rest_back = drop_rest (head_words c) c.rows (length_head c) _ _ rest listed_short used_short
